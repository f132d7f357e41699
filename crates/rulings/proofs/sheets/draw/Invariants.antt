use Rattle.std.proofs.Common.{◌≡◌, ℕ, ◌<◌, length, get_or}
use Rattle.rulings.specs.Rulings.{row}
use Rattle.rulings.proofs.sheets.draw.Given as goal

abbrev pub invariant-loop-i : goal.invariant-loop-i
invariant-loop-i l = record {
  all : length l.row-items ≡ 64;
  drawn : (k : ℕ) → k < l.i → row l.row-items k ≡ record { event = get_or l.page.events k 255; mark = get_or l.page.marks k 255; first = get_or l.first k 255; second = get_or l.second k 255; word = get_or l.words k 0 };
}
