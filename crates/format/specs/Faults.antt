-- A fault tells which layer found it, its number, its place, and in a merge the run.
use Rattle.std.specs.Prelude.{ℕ, Some, None, Ok, Err, Option, Result}
use Rattle.format.specs.declared.fault.Fault.{Fault}
use Rattle.format.specs.declared.fault.Layer.{Layer}
use Rattle.format.specs.declared.fault.Layer.TheVariants as layer

-- the layers
abbrev pub number : Layer
number = layer.Number

abbrev pub codec : Layer
codec = layer.Codec

abbrev pub block : Layer
block = layer.Block

abbrev pub table : Layer
table = layer.Table

abbrev pub call : Layer
call = layer.Call

-- a fault outside a merge
abbrev pub fault : Layer → ℕ → ℕ → Fault
fault layer number place = record { layer = layer; number = number; place = place; run = None }

-- the same fault, in a run of a merge
abbrev pub in_run : ℕ → Fault → Fault
in_run i f = record { layer = f.layer; number = f.number; place = f.place; run = Some i }

-- an answer by what its fault tells
abbrev pub told : {A E : Type 0} → (E → Fault) → Result A E → Result A Fault
told f (Ok x) = Ok x
told f (Err e) = Err (f e)

-- an answer, or a fault where there is none
abbrev pub or_fault : {A : Type 0} → Option A → Fault → Result A Fault
or_fault (Some x) f = Ok x
or_fault None f = Err f

-- 6: no number
abbrev pub bad_number : ℕ → Fault
bad_number place = fault number 6 place
