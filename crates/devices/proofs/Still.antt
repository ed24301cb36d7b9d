-- Devices that no schedule moves and whose timer stands still.
use Rattle.std.proofs.Common.{ℕ, zero, suc, ◌≡◌, ◌+◌, ◌<◌, arith, None, refl}
use Rattle.devices.specs.Devices.{ticked_devices, line_of}
use Rattle.devices.specs.Time.{ticked_by}
use Rattle.devices.specs.Parts.{LinesPart, SerialPart, lines_alone, serial_alone}

pub ticked_by-lines : (n k : ℕ) (l : LinesPart) → ticked_by n k (lines_alone l) ≡ lines_alone l
unfolding ticked_devices
ticked_by-lines zero k l = refl
ticked_by-lines (suc n) k l = ticked_by-lines n (k + 1) l

pub ticked_by-unsent : (n k : ℕ) (s : SerialPart) → ticked_by n k (serial_alone (record s { sent = None })) ≡ serial_alone (record s { sent = None })
unfolding ticked_devices
ticked_by-unsent zero k s = refl
ticked_by-unsent (suc n) k s = ticked_by-unsent n (k + 1) s

pub ticked_by-serial : (n k : ℕ) (s : SerialPart) → 0 < n → ticked_by n k (serial_alone s) ≡ serial_alone (record s { sent = None })
unfolding ticked_devices
ticked_by-serial zero k s some = absurd (omega (arith, some))
ticked_by-serial (suc n) k s some = ticked_by-unsent n (k + 1) s

-- the serial device raises its vector whatever was sent
pub line_of-serial : (n k : ℕ) (s : SerialPart) → line_of (ticked_by n k (serial_alone s)) ≡ line_of (serial_alone s)
unfolding line_of
line_of-serial zero k s = refl
line_of-serial (suc n) k s = rw (ticked_by-serial (suc n) k s (omega arith)) refl
