-- The laws of sweeps. Each is what a function of this crate ensures.
use Rattle.std.specs.Prelude.{◌≡◌, ℕ, ◌++◌, codes}
use Rattle.image_text.specs.Image.{Image}
use Rattle.written_machine.specs.Peers.{Peers}
use Rattle.pulse_sweep.specs.Rows.{columns_text}
use Rattle.pulse_sweep.specs.Sweep.{columns_at, different, row_at}
use Rattle.pulse_sweep.specs.declared.Pulses.{Pulses}

-- Of images that differ in one confined module's data alone every row gives the same numbers twice, and says `same`.
abbrev pub PeersAreSame : Type 0
PeersAreSame = (p : Pulses) (a b : Image) (m c : ℕ) → Peers a b m → row_at p a b c ≡ columns_text c (columns_at p a c) (columns_at p a c) ++ codes " same\n"

-- So none differs.
abbrev pub NoneDiffers : Type 0
NoneDiffers = (p : Pulses) (a b : Image) (m : ℕ) → Peers a b m → different p a b ≡ 0
