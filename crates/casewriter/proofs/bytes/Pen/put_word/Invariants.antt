use Rattle.std.proofs.Common.{◌≡◌, ◌+◌, ◌≤◌, take}
use Rattle.casewriter.specs.Laid.{Put}
use Rattle.casewriter.proofs.bytes.Pen.put_word.Given as goal

-- the first bytes of the word are laid
abbrev pub invariant-loop-byte : goal.invariant-loop-byte
invariant-loop-byte l =
    (l.self.buffer.ghost_name ≡ l.initial.self.buffer.ghost_name)
    × Put l.initial.self.at (take l.byte-index l.word) l.initial.self.buffer.now l.self.buffer.now l.self.at
    × (l.self.at ≤ l.initial.self.at + l.byte-index)
