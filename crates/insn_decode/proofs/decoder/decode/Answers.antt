use Rattle.std.proofs.Common.{◌≡◌, ◌∙◌, sym, refl, Option, Some, None, rules}
use Rattle.std.specs.Prelude.{IfSome, IsNone}
use Rattle.insn_decode.specs.declared.insn.Insn.{Insn}
use Rattle.insn_decode.specs.Code.{length_of, length_at, HasForm}
use Rattle.insn_decode.proofs.Table.{insn_means}
use Rattle.insn_decode.proofs.FormFacts.{means_form}
use Rattle.insn_decode.proofs.Unread.{length_same, unread_both, unread_last, none_outside, outside_none}
use Rattle.insn_decode.proofs.decoder.decode.Goals as goal

if_some : (P : Insn → Type 0) (o : Option Insn) → ((insn : Insn) → o ≡ Some insn → P insn) → IfSome o P
if_some P None each = tt
if_some P (Some insn) each = each insn refl

none_is : (o : Option Insn) → IsNone o → o ≡ None
none_is None h = refl
none_is (Some insn) h = absurd (search rules)

is_none_at : (o : Option Insn) → o ≡ None → IsNone o
is_none_at None e = search rules
is_none_at (Some insn) e = absurd cc

pub returns-clause-form : goal.returns-clause-form
returns-clause-form c =
    if_some HasForm c.by_form.result (λ insn e. means_form (insn_means c.args.w0 c.args.w1 c.args.w2 insn (sym c.by_form.ensures ∙ e)))

pub returns-clause-outside : goal.returns-clause-outside
returns-clause-outside c = (
  (λ h. none_outside c.args.w0 c.args.w1 c.args.w2 (sym c.by_form.ensures ∙ none_is c.by_form.result h)),
  (λ out. is_none_at c.by_form.result (c.by_form.ensures ∙ outside_none c.args.w0 c.args.w1 c.args.w2 out)),
)

pub returns-clause-length : goal.returns-clause-length
returns-clause-length c =
    if_some (λ insn. length_of insn ≡ length_at c.args.w0) c.by_form.result
    (λ insn e. length_same c.args.w0 c.args.w1 c.args.w2 insn (sym c.by_form.ensures ∙ e))

pub returns-clause-one_word : goal.returns-clause-one_word
returns-clause-one_word c h v1 v2 = unread_both c.args.w0 c.args.w1 c.args.w2 v1 v2 h ∙ sym c.by_form.ensures

pub returns-clause-two_words : goal.returns-clause-two_words
returns-clause-two_words c h v2 = unread_last c.args.w0 c.args.w1 c.args.w2 v2 h ∙ sym c.by_form.ensures
