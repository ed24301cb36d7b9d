-- Images that differ in one module's data alone.
use Rattle.std.specs.Prelude.{◌≡◌, ℕ, List, [], slice_index, take, drop, true, false, Some}
use Rattle.std.specs.List.{list_all}
use Rattle.mod_layout.specs.Table.{holds, size_of, module_of}
use Rattle.mod_layout.specs.declared.Module.{Module}
use Rattle.mod_layout.specs.declared.Section.{Section}
use Rattle.image_text.specs.Image.{Image, IsImage}
use Rattle.cpu_step.specs.Lone.{is_answer, AlwaysEvenBut}

-- the bytes of a section
abbrev pub section : Section → List ℕ → List ℕ
section s mem = take (size_of s) (drop s.start mem)

-- two images with one table, one key and one handler_sp, that differ in the data of one module alone
pub record DifferInData (a b : Image) (m : ℕ) (owner : Module) : Type 0 where
  pub images : IsImage a × IsImage b
  pub table : a.table ≡ b.table
  pub node_key : a.node_key ≡ b.node_key
  pub handler_sp : a.handler_sp ≡ b.handler_sp
  pub owned : module_of m a.table ≡ Some owner
  pub elsewhere : (x : ℕ) → holds owner.ram x ≡ false → slice_index a.memory x ≡ slice_index b.memory x

-- and no list of calls and no number of cycles tells these two data apart but by the answers, which are registers of the
-- module where a call ends
pub record PeersBut (a b : Image) (m : ℕ) (answers : List ℕ) : Type 0 where
  pub owner : Module
  pub differ : DifferInData a b m owner
  pub answers_ok : list_all is_answer answers ≡ true
  pub even : AlwaysEvenBut answers a.node_key owner (section owner.text a.memory) (section owner.ram a.memory) (section owner.ram b.memory)

-- the same where no register is an answer
abbrev pub Peers : Image → Image → ℕ → Type 0
Peers a b m = PeersBut a b m []
