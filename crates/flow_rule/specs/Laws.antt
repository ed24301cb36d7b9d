-- Every text has one verdict.
use Rattle.std.specs.Prelude.{◌≡◌, ℕ, List}
use Rattle.mod_layout.specs.declared.Module.{Module}
use Rattle.flow_rule.specs.Terms.{Terms}
use Rattle.flow_rule.specs.declared.Verdict.{Verdict}
use Rattle.arm_balance.specs.declared.Arm.{Arm}
use Rattle.flow_rule.specs.Arms.{VerdictUnder}

-- every text has a verdict, under any terms and certificates: the iterations end
abbrev pub SomeVerdict : Type 0
SomeVerdict = (terms : Terms) (m : Module) (text : List ℕ) (arms : List Arm) → (v : Verdict) × VerdictUnder terms m text arms v

-- and no other
abbrev pub OneVerdict : Type 0
OneVerdict = (terms : Terms) (m : Module) (text : List ℕ) (arms : List Arm) (v w : Verdict) → VerdictUnder terms m text arms v → VerdictUnder terms m text arms w → v ≡ w
