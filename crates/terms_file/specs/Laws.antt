-- The laws of the text of terms.
use Rattle.std.specs.Prelude.{◌≡◌, ℕ, Bool, true, List, filter, Ok}
use Rattle.std.specs.List.{list_all}
use Rattle.cpu_step.specs.Lone.{is_answer}
use Rattle.terms_file.specs.declared.Term.{Term}
use Rattle.terms_file.specs.Terms.{terms_of, terms_text, registers_in}

-- The registers that a text names may be answers.
abbrev pub AnswersMayBe : Type 0
AnswersMayBe = (text : List ℕ) (terms : List Term) → terms_of text ≡ Ok terms → list_all is_answer (registers_in terms) ≡ true

-- Some of the terms of a text, in their order, are read back from the text that says them.
abbrev pub AreReadBack : Type 0
AreReadBack = (text : List ℕ) (terms : List Term) (test : Term → Bool) → terms_of text ≡ Ok terms
    → terms_of (terms_text (filter test terms)) ≡ Ok (filter test terms)
