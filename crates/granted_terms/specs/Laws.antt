-- The law of granted terms: without certificates the most public words and the fewest answers are offered.
use Rattle.std.specs.Prelude.{◌≡◌, ℕ, List, [], length, All, Contains}
use Rattle.mod_layout.specs.declared.Module.{Module}
use Rattle.terms_file.specs.declared.Term.{Term}
use Rattle.terms_file.specs.declared.Term.TheVariants.{Answer, Public}
use Rattle.flow_rule.specs.Terms.{Terms}
use Rattle.flow_rule.specs.declared.Verdict.{Verdict}
use Rattle.flow_rule.specs.declared.Verdict.TheVariants.{Yes}
use Rattle.flow_rule.specs.Arms.{VerdictUnder}
use Rattle.cli_calls.specs.Offers.{terms_by, IsOffered}

-- terms of which each is granted
pub record AreGranted (granted : List Term) (terms : Terms) : Type 0 where
  pub answers : All (λ n. Contains granted (Answer n)) terms.answers
  pub public : All (λ a. Contains granted (Public a)) terms.public

-- each public word of the others, and no answer but theirs
pub record AreNoLess (terms others : Terms) : Type 0 where
  pub public : All (Contains terms.public) others.public
  pub answers : All (Contains others.answers) terms.answers

-- where the text is accepted under some of the granted terms, so it is under those offered, which are no less
abbrev pub GreatestTerms : Type 0
GreatestTerms = (owner : Module) (text : List ℕ) (granted offered : List Term) (verdict : Verdict) (others : Terms) →
    IsOffered owner text [] granted (length granted) [] offered verdict →
    AreGranted granted others → VerdictUnder others owner text [] Yes →
    (verdict ≡ Yes) × AreNoLess (terms_by offered) others
