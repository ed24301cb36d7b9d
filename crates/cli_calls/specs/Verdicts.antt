-- How a verdict is told.
use Rattle.std.specs.Prelude.{ℕ, List, ◌++◌, codes}
use Rattle.texts.specs.Hexadecimals.{hex_word}
use Rattle.flow_rule.specs.declared.Reason.{Reason}
use Rattle.flow_rule.specs.declared.Reason.TheVariants as reason

abbrev pub reason_name : Reason → List ℕ
reason_name reason.SecretBranch = codes "SecretBranch"
reason_name reason.SecretAddress = codes "SecretAddress"
reason_name reason.OutsideAccess = codes "OutsideAccess"
reason_name reason.SecretAtExit = codes "SecretAtExit"
reason_name reason.UnknownTarget = codes "UnknownTarget"
reason_name reason.Illegal = codes "Illegal"
reason_name reason.Unit = codes "Unit"
reason_name reason.TooMany = codes "TooMany"
reason_name reason.Arm = codes "Arm"
reason_name reason.ArmTime = codes "ArmTime"
reason_name reason.DataAtExit = codes "DataAtExit"

-- `no`, the address, the reason and its value
abbrev pub no_line : ℕ → Reason → ℕ → List ℕ
no_line addr why value = (codes "no " ++ (hex_word addr ++ codes " ")) ++ (reason_name why ++ (codes " " ++ (hex_word value ++ codes "\n")))
