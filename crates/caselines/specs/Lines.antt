-- What the lines of a case text say, how each is spelled, and which line a spelling is.
use Rattle.std.specs.Prelude.{◌≡◌, ℕ, ◌<◌, cond, List, [], ◌∷◌, ◌++◌, Some, None, codes, decimal, Option}
use Rattle.std.specs.Str.{bytes_eq}
use Rattle.executions.specs.declared.sorts.Sort.{Sort}
use Rattle.executions.specs.declared.sorts.Sort.TheVariants.{ReadOnce, ReadAcquire, WriteOnce, WriteRelease, Rmb, Wmb, Mb, RbDep, RcuLock, RcuUnlock, SyncRcu, Blank}
use Rattle.executions.specs.declared.ties.Relation.{Relation}
use Rattle.executions.specs.Ties.{relations, relation_name}
use Rattle.caselines.specs.declared.lines.Letter.{Letter}
use Rattle.caselines.specs.declared.lines.Letter.TheVariants.{Read, Write, Fence}
use Rattle.caselines.specs.declared.lines.Line.{Line}
use Rattle.caselines.specs.declared.lines.Line.TheVariants.{Events, Event, Ties, Tie}
use Rattle.caselines.specs.Fields.{then, cut, number_of, called}

-- ---- words

-- the letter that begins the line of an event of each sort
abbrev pub letter : Sort → Letter
letter ReadOnce = Read
letter ReadAcquire = Read
letter WriteOnce = Write
letter WriteRelease = Write
letter Rmb = Fence
letter Wmb = Fence
letter Mb = Fence
letter RbDep = Fence
letter RcuLock = Fence
letter RcuUnlock = Fence
letter SyncRcu = Fence
letter Blank = Fence

-- the word that tells the sorts of one letter apart
abbrev pub mark : Sort → List ℕ
mark ReadOnce = codes "once"
mark ReadAcquire = codes "acquire"
mark WriteOnce = codes "once"
mark WriteRelease = codes "release"
mark Rmb = codes "rmb"
mark Wmb = codes "wmb"
mark Mb = codes "mb"
mark RbDep = codes "rb-dep"
mark RcuLock = codes "rcu-lock"
mark RcuUnlock = codes "rcu-unlock"
mark SyncRcu = codes "sync-rcu"
mark Blank = codes "blank"

abbrev pub letters : List Letter
letters = Read ∷ Write ∷ Fence ∷ []

abbrev pub letter_name : Letter → List ℕ
letter_name Read = codes "R"
letter_name Write = codes "W"
letter_name Fence = codes "F"

-- the sorts of a letter
abbrev pub sorts_of : Letter → List Sort
sorts_of Read = ReadOnce ∷ ReadAcquire ∷ []
sorts_of Write = WriteOnce ∷ WriteRelease ∷ []
sorts_of Fence = Rmb ∷ Wmb ∷ Mb ∷ RbDep ∷ RcuLock ∷ RcuUnlock ∷ SyncRcu ∷ Blank ∷ []

-- ---- how a line is spelled

-- two fields with one space between
abbrev pub spaced : List ℕ → List ℕ → List ℕ
spaced a b = a ++ 32 ∷ b

-- reads and writes have their place at the end, fences have none
abbrev pub placed : Letter → List ℕ → ℕ → List ℕ
placed Read w n = spaced w (decimal n)
placed Write w n = spaced w (decimal n)
placed Fence w n = w

-- the bytes of a line, without the byte 10 at its end
unfoldable pub spelled : Line → List ℕ
spelled (Events n) = spaced (codes "events") (decimal n)
spelled (Event s t n) = spaced (letter_name (letter s)) (spaced (decimal t) (placed (letter s) (mark s) n))
spelled (Ties n) = spaced (codes "ties") (decimal n)
spelled (Tie r a b) = spaced (relation_name r) (spaced (decimal a) (decimal b))

-- the place of a fence counts as 0
abbrev pub Place : Letter → ℕ → Type 0
Place Read n = n < 100000
Place Write n = n < 100000
Place Fence n = n ≡ 0

-- a line with numbers of at most five digits
abbrev pub Plain : Line → Type 0
Plain (Events n) = n < 100000
Plain (Event s t n) = (t < 100000) × Place (letter s) n
Plain (Ties n) = n < 100000
Plain (Tie r a b) = (a < 100000) × (b < 100000)

-- ---- which line a spelling is

-- a read or write of some thread: mark word and place
abbrev pub access_from : Letter → ℕ → List ℕ → Option Line
access_from l t bs =
    then (cut 32 bs) λ p. then (called mark (sorts_of l) p.0) λ s. then (number_of p.1) λ n. Some (Event s t n)

-- the rest of an event line behind its thread
abbrev pub event_from : Letter → ℕ → List ℕ → Option Line
event_from Read t bs = access_from Read t bs
event_from Write t bs = access_from Write t bs
event_from Fence t bs = then (called mark (sorts_of Fence) bs) λ s. Some (Event s t 0)

-- the rest of a tie line behind its relation
abbrev pub tie_from : Relation → List ℕ → Option Line
tie_from r bs = then (cut 32 bs) λ p. then (number_of p.0) λ a. then (number_of p.1) λ b. Some (Tie r a b)

-- a line behind its first word, by that word
abbrev pub line_from : List ℕ → List ℕ → Option Line
line_from w bs =
    cond (bytes_eq w (codes "events")) (then (number_of bs) λ n. Some (Events n))
    (cond (bytes_eq w (codes "ties")) (then (number_of bs) λ n. Some (Ties n))
    (elim (called letter_name letters w) [
      | Some l ↦ then (cut 32 bs) λ p. then (number_of p.0) λ t. event_from l t p.1
      | None ↦ then (called relation_name relations w) λ r. tie_from r bs
    ]))

-- the line that some bytes spell, if they spell one
unfoldable pub line_of : List ℕ → Option Line
line_of bs = then (cut 32 bs) λ p. line_from p.0 p.1

-- An answer names the one line that the bytes spell, or none where they spell none.
pub record Named (bs : List ℕ) (answer : Option Line) : Type 0 where
  pub spells : (l : Line) → answer ≡ Some l → (bs ≡ spelled l) × Plain l
  pub only : (l : Line) → Plain l → bs ≡ spelled l → answer ≡ Some l
