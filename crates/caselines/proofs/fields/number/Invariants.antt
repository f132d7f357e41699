use Rattle.std.proofs.Common.{◌≡◌, ◌^◌, ◌<◌, drop}
use Rattle.std.specs.Str.{all_ascii_digits}
use Rattle.caselines.specs.Fields.{reading}
use Rattle.caselines.proofs.fields.number.Given as goal

-- the digits so far write n
abbrev pub invariant-loop-digit : goal.invariant-loop-digit
invariant-loop-digit l =
    (reading 0 l.field ≡ reading l.n (drop l.digit-index l.field))
    × (all_ascii_digits l.field ≡ all_ascii_digits (drop l.digit-index l.field))
    × (l.n < 10 ^ l.digit-index)
