use Rattle.std.proofs.Common.{◌≡◌, None, length, vec_len, sym, ◌∙◌, position, arith}
use Rattle.std.specs.Prelude.{bytes_eq}
use Rattle.asm_text.specs.internal.Maps.{texts_of}
use Rattle.asm_text.proofs.PlaceLemmas.{place_none, indexed_more, length_texts, texts_more}
use Rattle.asm_text.proofs.names.Names.number.Goals as goal

pub returns-clause-number : goal.returns-clause-number
returns-clause-number c =
    let none : position (λ n. bytes_eq n c.args.name.now) (texts_of c.args.self.now) ≡ None = sym (c.requires.indexed c.args.name.now) ∙ (sym c.find.ensures ∙ c.in_default.is) in
    let size : vec_len c.args.self.now.texts ≡ length c.args.self.now.texts.items = omega (arith, c.args.self.now.texts.ok.0) in
    c.len-number.ensures ∙ (size ∙ (sym (length_texts c.args.self.now.texts.items) ∙ sym (place_none _ _ none)))

pub returns-clause-indexed : goal.returns-clause-indexed
returns-clause-indexed c = λ q.
    let none : position (λ n. bytes_eq n c.args.name.now) (texts_of c.args.self.now) ≡ None = sym (c.requires.indexed c.args.name.now) ∙ (sym c.find.ensures ∙ c.in_default.is) in
    let size : c.len-number.result ≡ length (texts_of c.args.self.now) = omega (arith, c.len-number.ensures, c.args.self.now.texts.ok.0, length_texts c.args.self.now.texts.items) in
    rw (c.in_ok-push.ensures.items, texts_more c.args.self.now.texts.items c.args.name)
    (c.in_ok-insert.ensures q
    ∙ (rw size (indexed_more (texts_of c.args.self.now) c.args.name.now q _ (c.requires.indexed q) none)))
