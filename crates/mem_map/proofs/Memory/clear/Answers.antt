use Rattle.std.proofs.Common.{◌≡◌, ℕ, ◌-◌, ◌∙◌, ap, arith}
use Rattle.mod_layout.specs.Table.{size_of}
use Rattle.sm_words.specs.Words.{cleared}
use Rattle.mem_map.proofs.MarkLemmas.{contents_are}
use Rattle.mem_map.proofs.Memory.clear.Goals as goal

pub returns : goal.returns
returns c =
    let most = c.loop-addr.invariant.most in
    let all : c.loop-addr.addr - c.args.section.start ≡ size_of c.args.section = omega arith in
    record {
      cleared = contents_are c.loop-addr.self (cleared c.args.section.start (size_of c.args.section) c.args.self.now.bytes) c.args.self.now
          (c.loop-addr.invariant.bytes ∙ ap (λ (n : ℕ). cleared c.args.section.start n c.args.self.now.bytes) all)
          c.loop-addr.invariant.marked c.loop-addr.invariant.room;
    }
