-- The causes of a fault and the layers of the bench, with their numbers.
use Rattle.std.specs.Prelude.{ℕ, List, ◌++◌, codes, decimal}
use Rattle.executions.specs.declared.faults.Cause.{Cause}
use Rattle.executions.specs.declared.faults.Cause.TheVariants.{TooShort, TooManyEvents, OutOfRange, NoSuchEvent, NoSuchRelation, DoesNotFit, OverLimit, NoSuchTie, ReadWithoutRf, InitialWrites, CoherenceNotTotal, LocksNotPaired, LineForm, LineOrder, BufferTooShort}
use Rattle.executions.specs.declared.faults.Fault.{Fault}
use Rattle.executions.specs.declared.faults.Layer.{Layer}
use Rattle.executions.specs.declared.faults.Layer.TheVariants.{Entry, Check, Text}

-- the number of each cause
abbrev pub cause_number : Cause → ℕ
cause_number TooShort = 1
cause_number TooManyEvents = 2
cause_number OutOfRange = 3
cause_number NoSuchEvent = 4
cause_number NoSuchRelation = 5
cause_number DoesNotFit = 6
cause_number OverLimit = 7
cause_number NoSuchTie = 8
cause_number ReadWithoutRf = 9
cause_number InitialWrites = 10
cause_number CoherenceNotTotal = 11
cause_number LocksNotPaired = 12
cause_number LineForm = 13
cause_number LineOrder = 14
cause_number BufferTooShort = 15

-- the number of each layer
abbrev pub layer_number : Layer → ℕ
layer_number Entry = 1
layer_number Check = 2
layer_number Text = 3

-- a fault in words
abbrev pub fault_told : Fault → List ℕ
fault_told f = codes "number " ++ decimal (cause_number f.cause) ++ codes ", layer " ++ decimal (layer_number f.layer) ++ codes ", place " ++ decimal f.place
