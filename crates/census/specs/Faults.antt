-- The number of each refusal of a window's classes.
use Rattle.std.specs.Prelude.{ℕ, Some, None, Option}
use Rattle.plane.specs.Rectangles.{rectangle_number}
use Rattle.census.specs.declared.fault.WindowFault.{WindowFault}
use Rattle.census.specs.declared.fault.WindowFault.TheVariants.{NoMemory, Refused}

abbrev pub fault_number : WindowFault → Option ℕ
fault_number (Refused why) = Some (rectangle_number why)
fault_number NoMemory = None
