use Rattle.std.proofs.Common.{◌≡◌, ℕ, List, [], ◌∷◌, ◌++◌, get_or, string_bytes, sym, ap, ap₂, ◌∙◌, rules}
use Rattle.std.specs.Char.{encode_utf8}
use Rattle.std.proofs.lemmas.Str.{encode_ascii}
use Rattle.std.proofs.lemmas.List.{map_more}
use Rattle.cli_files.specs.SymbolNames.{shown_byte}
use Rattle.cli_files.proofs.Symbols.{shown_ascii}
use Rattle.cli_files.proofs.linking.shown.Goals as goal

pub loop-byte-preserved : goal.loop-byte-preserved
loop-byte-preserved c =
    let name = c.args.name.now in
    let i = c.loop-byte.byte-index in
    let shown = shown_byte (get_or name i 0) in
    let one : encode_utf8 c.shown_byte.result ≡ shown ∷ [] = ap encode_utf8 c.shown_byte.ensures ∙ encode_ascii shown (shown_ascii (get_or name i 0)) in
    let pushed : string_bytes c.push.new.self ≡ string_bytes c.loop-byte.shown ++ encode_utf8 c.shown_byte.result = search rules in
    pushed ∙ ap₂ (λ (x : List ℕ) (y : List ℕ). x ++ y) c.loop-byte.invariant one ∙ sym (map_more shown_byte name i 0 c.loop-byte-test.true)
