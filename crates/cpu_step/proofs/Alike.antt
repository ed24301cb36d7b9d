-- Two ends that are alike but for the answers, where one looks at the data left alone.
use Rattle.std.proofs.Common.{◌≡◌, ℕ, List}
use Rattle.cpu_step.specs.Lone.{CallEnd, alike_but}

-- of the data left this holds in any case
abbrev pub ends_but : List ℕ → (List ℕ → List ℕ → Type 0) → CallEnd → CallEnd → Type 0
ends_but answers left o p = alike_but answers (λ c c' d d'. left d d') o p

-- this holds where the cores are equal
abbrev pub ends_then : List ℕ → (List ℕ → List ℕ → Type 0) → CallEnd → CallEnd → Type 0
ends_then answers left o p = alike_but answers (λ c c' d d'. c ≡ c' → left d d') o p
