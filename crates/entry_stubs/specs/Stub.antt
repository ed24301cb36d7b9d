-- The words of a module's entry stub: what stands before its table, and the table of its entries.
-- R6 is the entry's number, R7 the return address, R12 the result.
use Rattle.std.specs.Prelude.{ℕ, ◌+◌, ◌*◌, List, [], ◌∷◌, ◌++◌, length}
use Rattle.mod_layout.specs.declared.Section.{Section}

-- words before the table
abbrev pub front_words : ℕ
front_words = 38

-- the most entries of a module
abbrev pub most_entries : ℕ
most_entries = 64

-- bytes of a stub with n entries
abbrev pub stub_size : ℕ → ℕ
stub_size n = 2 * front_words + 2 * n

-- places of words: the number of entries; where the way of a known entry begins; the end of the private stack; the call and the
-- table's address in it; the way of an unknown entry
abbrev pub count_word : ℕ
count_word = 8

abbrev pub body_word : ℕ
body_word = 10

abbrev pub stack_word : ℕ
stack_word = 15

abbrev pub call_word : ℕ
call_word = 17

abbrev pub table_word : ℕ
table_word = 18

abbrev pub unknown_word : ℕ
unknown_word = 36

-- the words before the table, for a text from t to e, data from d on, n entries, and a private stack that ends at p
abbrev pub stub_front : ℕ → ℕ → ℕ → ℕ → ℕ → List ℕ
stub_front t e d n p =
    -- 0: a return address in the own text loops for ever at word 6
    0x9037 ∷ t ∷ 0x2804 ∷ 0x9037 ∷ e ∷ 0x2c01 ∷ 0x3fff ∷
    -- 7: an unknown entry goes to word 36
    0x9036 ∷ n ∷ 0x2c1a ∷
    -- 10: SP and R7 are kept, the private stack is set
    0x4182 ∷ d ∷ 0x4782 ∷ (d + 2) ∷ 0x4031 ∷ p ∷
    -- 16: R6 is doubled; CALL through the table
    0x5606 ∷ 0x1296 ∷ (t + 76) ∷
    -- 19: SP is restored
    0x4211 ∷ d ∷
    -- 21: registers are cleared
    0x4304 ∷ 0x4305 ∷ 0x4306 ∷ 0x4307 ∷ 0x4308 ∷ 0x4309 ∷ 0x430a ∷ 0x430b ∷ 0x430d ∷ 0x430e ∷ 0x430f ∷
    -- 32: flags are cleared; the module is left
    0xc032 ∷ 0x0107 ∷ 0x4210 ∷ (d + 2) ∷
    -- 36: unknown entry: R12 is 0, the module is left
    0x430c ∷ 0x4700 ∷ []

-- 38: the table has the entries' addresses. The caller's SP and the return address are kept in the data's first
-- two words, and the private stack follows them.
unfoldable pub stub_words : Section → ℕ → ℕ → List ℕ → List ℕ
stub_words text data_start stack entries =
    stub_front text.start text.end data_start (length entries) (data_start + 4 + stack) ++ entries
