-- The rule's answer (rules E10 and H0), as one value with the refusals. Definitions only.
use Rattle.std.specs.Prelude.{ℕ, Result, Ok, Err}
use Rattle.fault.specs.declared.Fault.{Fault}
use Rattle.fault.specs.Number.{fault_number}
use Rattle.central.specs.declared.Ruling.{Ruling as Told}
use Rattle.central.specs.declared.Ruling.TheVariants.{Allowed as told-allowed, Forbidden as told-forbidden}

-- E10, H0: the event is allowed, or it is not; or the call is refused, with the number of the test that failed
pub data Ruling : Type 0 where
  Allowed Forbidden : Ruling
  Refused : ℕ → Ruling

-- E10, H0: what the function tells
abbrev pub ruling_of : Result Told Fault → Ruling
ruling_of (Ok told-allowed) = Allowed
ruling_of (Ok told-forbidden) = Forbidden
ruling_of (Err f) = Refused (fault_number f)
