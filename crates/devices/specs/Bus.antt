-- The bus: the three devices side by side, and the schedule.
use Rattle.std.specs.Prelude.{ℕ, []}
use Rattle.devices.specs.Devices.{Devices}

-- what a bus is: the devices, the ticks that were done, and the calls that moved it
pub record BusState : Type 0 where
  pub devices : Devices
  pub ticks : ℕ
  pub moves : ℕ

-- what a mark keeps of a bus: its devices, with no schedule, and the ticks that were done
pub record MarkedBus : Type 0 where
  pub devices : Devices
  pub ticks : ℕ

-- a bus as a mark keeps it
abbrev pub marked_bus : BusState → MarkedBus
marked_bus b = record { devices = record b.devices { schedule = [] }; ticks = b.ticks }

-- a bus that goes back to a mark keeps its schedule and its count of moves
abbrev pub gone_back : MarkedBus → BusState → BusState
gone_back m b = record b { devices = record m.devices { schedule = b.devices.schedule }; ticks = m.ticks }
