use Rattle.std.proofs.Common.{◌++◌, List, sym, ap, ◌∙◌, arith}
use Rattle.mod_layout.specs.declared.Module.{Module}
use Rattle.image_text.specs.ImageText.{modules_text}
use Rattle.image_text.proofs.WriteLemmas.{module_written, found_number, missing_number, below_of}
use Rattle.image_text.proofs.writer.put_modules.Goals as goal

pub loop-module-preserved : goal.loop-module-preserved
loop-module-preserved c =
    let f = sym c.in-Some.ensures.module_of in
    let l = below_of c.args.table.now.modules c.loop-module.index c.in-Some.module.now (found_number 1 c.args.table.now.modules c.loop-module.index c.in-Some.module.now c.requires.numbered f) in
    record {
      within = omega arith;
      text = module_written c.loop-module.text.items c.put_module.new.text.items c.args.text.now.items c.args.table.now.modules c.loop-module.index c.in-Some.module.now c.requires.numbered f c.in_ok-put_module.ensures c.loop-module.invariant.text;
    }

pub loop-module-smaller : goal.loop-module-smaller
loop-module-smaller c =
    let f = sym c.in-Some.ensures.module_of in
    let l = below_of c.args.table.now.modules c.loop-module.index c.in-Some.module.now (found_number 1 c.args.table.now.modules c.loop-module.index c.in-Some.module.now c.requires.numbered f) in
    omega arith

pub returns : goal.returns
returns c = λ rest.
    let none = missing_number 1 c.args.table.now.modules c.loop-module.index c.requires.numbered (sym c.in_default.ensures.module_of) in
    sym (ap (λ (ms : List Module). c.loop-module.text.items ++ modules_text ms rest) none) ∙ c.loop-module.invariant.text rest
