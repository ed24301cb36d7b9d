-- Offers: of the terms that an owner would grant, those under which a module's text is judged at last.
use Rattle.std.specs.Prelude.{◌≡◌, ℕ, zero, suc, Bool, false, MatchBool, not, ◌==◌, List, [], ◌∷◌, ◌++◌, filter}
use Rattle.std.specs.List.{list_any}
use Rattle.arm_balance.specs.declared.Arm.{Arm}
use Rattle.flow_rule.specs.declared.Reason.{Reason}
use Rattle.flow_rule.specs.declared.Reason.TheVariants.{SecretAtExit, DataAtExit}
use Rattle.flow_rule.specs.declared.Verdict.{Verdict}
use Rattle.flow_rule.specs.declared.Verdict.TheVariants.{Yes, No}
use Rattle.flow_rule.specs.Arms.{VerdictUnder}
use Rattle.flow_rule.specs.Terms.{Terms}
use Rattle.mod_layout.specs.declared.Module.{Module}
use Rattle.terms_file.specs.declared.Term.{Term}
use Rattle.terms_file.specs.declared.Term.TheVariants.{Answer, Public}
use Rattle.terms_file.specs.Terms.{registers_in, addresses_in}

-- what the lines of a text of terms say
abbrev pub terms_by : List Term → Terms
terms_by terms = record { answers = registers_in terms; public = addresses_in terms }

-- a register that is secret where a call ends, a word that is where the module leaves
abbrev pub named_by : Reason → ℕ → Term → Bool
named_by SecretAtExit value (Answer n) = n == value
named_by DataAtExit value (Public a) = a == value
named_by _ value term = false

-- the verdict names this term
abbrev pub names : Verdict → Term → Bool
names Yes term = false
names (No addr why value) term = named_by why value term

abbrev pub have_named : List Verdict → Term → Bool
have_named verdicts term = list_any (λ v. names v term) verdicts

-- an answer stands once a verdict has named it, a public word until one does
abbrev pub stands : List Verdict → Term → Bool
stands verdicts (Answer n) = have_named verdicts (Answer n)
stands verdicts (Public a) = not (have_named verdicts (Public a))

-- the granted terms that stand after these verdicts
abbrev pub standing_terms : List Term → List Verdict → List Term
standing_terms granted verdicts = filter (stands verdicts) granted

module _ (owner : Module) (text : List ℕ) (arms : List Arm) (granted : List Term) where
  -- the text is judged under the terms that stand, and again while the verdict names a granted term, so often at most
  abbrev pub IsOffered : ℕ → List Verdict → List Term → Verdict → Type 0
  IsOffered zero verdicts terms v =
      (terms ≡ standing_terms granted verdicts) × VerdictUnder (terms_by terms) owner text arms v
  IsOffered (suc n) verdicts terms v =
      (now : Verdict) × VerdictUnder (terms_by (standing_terms granted verdicts)) owner text arms now
      × MatchBool (list_any (names now) granted) (IsOffered n (verdicts ++ (now ∷ [])) terms v)
      ((terms ≡ standing_terms granted verdicts) × (v ≡ now))
