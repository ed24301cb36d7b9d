use Rattle.std.proofs.Common.{◌∙◌, Some, None}
use Rattle.layout_file.specs.Layout.{layout_of}
use Rattle.link_symbols.proofs.OrderLemmas.{skip, hit, on_ok, if_err}
use Rattle.linker.proofs.OrderLemmas.{in_groups}
use Rattle.linker.proofs.LinkLemmas.{ordered, few_entries}
use Rattle.linker.proofs.LinkageLemmas.{linkage_links}
use Rattle.linker.proofs.LinkedLemmas.{each_placed}
use Rattle.linker.proofs.linkage.linkage_of.Goals as goal

pub linkage_by-requires-clause-entries : goal.linkage_by-requires-clause-entries
linkage_by-requires-clause-entries c = few_entries c.args.layout.now

pub linkage_by-requires-clause-order : goal.linkage_by-requires-clause-order
linkage_by-requires-clause-order c = ordered c.args.layout.now

pub linkage_by-requires-clause-somewhere : goal.linkage_by-requires-clause-somewhere
linkage_by-requires-clause-somewhere c = each_placed (layout_of c.args.layout.now) c.args.objects.now c.in-Ok.ensures.sound

pub returns-in-Err-clause-refusal : goal.returns-in-Err-clause-refusal
returns-in-Err-clause-refusal c = λ ne. in_groups _ _ ∙ hit _ _ c.in-Err.fault (c.in-Err.ensures.refusal ne)

pub returns-clause-sound : goal.returns-clause-sound
returns-clause-sound c =
    let l = layout_of c.args.layout.now in let os = c.args.objects.now in
    on_ok c.linkage_by.result _ _ (λ whole. in_groups l os ∙ skip _ _ None c.in-Ok.ensures.sound whole) c.linkage_by.ensures.sound

pub returns-clause-refusal : goal.returns-clause-refusal
returns-clause-refusal c =
    let l = layout_of c.args.layout.now in let os = c.args.objects.now in
    if_err c.linkage_by.result _ _ (λ fault why ne. in_groups l os ∙ skip _ _ (Some fault) c.in-Ok.ensures.sound (why ne)) c.linkage_by.ensures.refusal

pub returns-clause-links : goal.returns-clause-links
returns-clause-links c = linkage_links c.linkage_by.result (layout_of c.args.layout.now) c.args.objects.now (returns-clause-sound c) c.linkage_by.ensures.linked
