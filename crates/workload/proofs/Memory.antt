-- The bytes of a workload's memory.
use Rattle.std.proofs.Common.{◌≡◌, ℕ, ◌-◌, ◌<◌, ◌≤◌, List, [], ◌++◌, length, replicate, ◌∙◌, arith}
use Rattle.std.specs.Prelude.{slice_index}
use Rattle.std.specs.List.{flat_map}
use Rattle.std.proofs.lemmas.List.{get_or_append_left, get_or-replicate, length-append, length-replicate}
use Rattle.mod_layout.specs.declared.TheConstants.{RESET_VECTOR}
use Rattle.workload.specs.declared.program.TheConstants.{PROGRAM, TEXT, DATA, HANDLER, LINE_VECTOR}
use Rattle.sm_words.specs.Bytes.{word_bytes}
use Rattle.workload.specs.Program.{placed_words, memory}

-- the bytes of the devices are 0
pub record IsLow (bytes : List ℕ) : Type 0 where
  pub long : 512 ≤ length bytes
  pub low : (a : ℕ) → a < 512 → slice_index bytes a ≡ 0

low_front : (front more : List ℕ) → IsLow front → IsLow (front ++ more)
low_front front more h =
    let whole = length-append front more in
    let long = h.long in
    record {
      long = omega arith;
      low = λ a small. get_or_append_left front more 0 a (omega arith) ∙ h.low a small;
    }

low_zeros : IsLow (replicate 512 0)
low_zeros = record {
  long = let n = length-replicate {A = ℕ} 512 0 in omega arith;
  low = λ a small. get_or-replicate 512 a 0 0 small;
}

low_first : (words : List ℕ) → IsLow (placed_words 512 words [])
unfolding placed_words
low_first words = low_front (replicate 512 0) (flat_map word_bytes words) low_zeros

low_more : (addr : ℕ) (words before : List ℕ) → IsLow before → IsLow (placed_words addr words before)
unfolding placed_words
low_more addr words before h = low_front (before ++ replicate (addr - length before) 0) (flat_map word_bytes words) (low_front before (replicate (addr - length before) 0) h)

pub low_memory : (word : ℕ) → IsLow (memory word)
unfolding memory
low_memory word = low_more RESET_VECTOR _ _ (low_more LINE_VECTOR _ _ (low_more HANDLER _ _ (low_more DATA.start _ _ (low_more TEXT.start _ _ (low_first PROGRAM)))))
