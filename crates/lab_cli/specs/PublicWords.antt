-- The public words that terms may name: the first words of a module's data, of which a state knows something.
use Rattle.std.specs.Prelude.{ℕ, Bool, not, ◌&&◌, nat_lt, List, ◌++◌, codes, Option, Some, None, find}
use Rattle.texts.specs.Hexadecimals.{hex_word}
use Rattle.mod_layout.specs.declared.Module.{Module}
use Rattle.mod_layout.specs.Table.{holds}
use Rattle.flow_rule.specs.Does.{word_no}
use Rattle.flow_rule.specs.Verdict.{known_words}
use Rattle.terms_file.specs.declared.Term.{Term}
use Rattle.terms_file.specs.Terms.{addresses_in}
use Rattle.cli_files.specs.declared.answers.Status.TheVariants.{CheckNo}
use Rattle.cli_calls.specs.Command.{Answer, Outcome, gives}

-- one of those words stands at this address
abbrev pub is_data_word : Module → ℕ → Bool
is_data_word owner a = holds owner.ram a && nat_lt (word_no owner a) known_words

-- the first address that terms name, and at which none stands
abbrev pub not_data : Module → List Term → Option ℕ
not_data owner terms = find (λ a. not (is_data_word owner a)) (addresses_in terms)

abbrev pub not_data_line : ℕ → List ℕ
not_data_line a = codes "no " ++ (hex_word a ++ codes " NotData\n")

abbrev pub not_data_answer : ℕ → Answer
not_data_answer a = record { text = not_data_line a; status = CheckNo }

-- what comes of terms, or a no where one is at such an address
abbrev pub on_data : Option ℕ → Outcome → Outcome
on_data None outcome = outcome
on_data (Some a) outcome = gives (not_data_answer a)
