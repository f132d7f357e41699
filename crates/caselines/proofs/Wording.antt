-- Words: which of some names a word is.
use Rattle.std.proofs.Common.{◌≡◌, ℕ, Bool, true, false, cond, List, [], ◌∷◌, length, get_or, codes, Some, sym, refl, ap, ◌∙◌, arith}
use Rattle.std.proofs.lemmas.Option.{none-some, same_Some}
use Rattle.std.specs.List.{find}
use Rattle.std.specs.Str.{bytes_eq}
use Rattle.std.proofs.lemmas.Slice.Eq.{bytes_eq-Decides}
use Rattle.executions.specs.declared.sorts.Sort.{Sort}
use Rattle.executions.specs.declared.sorts.Sort.TheVariants.{ReadOnce, ReadAcquire, WriteOnce, WriteRelease, Rmb, Wmb, Mb, RbDep, RcuLock, RcuUnlock, SyncRcu, Blank}
use Rattle.executions.specs.declared.ties.Relation.{Relation}
use Rattle.executions.specs.declared.ties.Relation.TheVariants.{Rf, Co, Addr, Data, Ctrl, Rmw}
use Rattle.executions.specs.Ties.{relation_name}
use Rattle.caselines.specs.declared.lines.Letter.{Letter}
use Rattle.caselines.specs.declared.lines.Letter.TheVariants.{Read, Write, Fence}
use Rattle.caselines.specs.Fields.{called}
use Rattle.caselines.specs.Lines.{letter, mark, letter_name, sorts_of}
use Rattle.caselines.proofs.Cutting.{absent}

pub same_word : (a b : List ℕ) → bytes_eq a b ≡ true → a ≡ b
same_word a b e = (bytes_eq-Decides a b).0 e

-- what is called by a word has the word for its name
pub called_name : {E : Type 0} (name : E → List ℕ) (es : List E) (w : List ℕ) (e : E) → called name es w ≡ Some e → w ≡ name e
called_name name [] w e h = absurd (none-some _ h)
called_name name (x ∷ xs) w e h = go (bytes_eq w (name x)) refl h (called_name name xs w e)
  where
    go : (t : Bool) → bytes_eq w (name x) ≡ t → cond t (Some x) (called name xs w) ≡ Some e → (called name xs w ≡ Some e → w ≡ name e) → w ≡ name e
    go true q k later = let same = same_Some x e k in same_word w (name x) q ∙ ap name same
    go false q k later = later k

-- it is the first that has the name
pub called_find : {E : Type 0} (name : E → List ℕ) (es : List E) (w : List ℕ) → find (λ e. bytes_eq w (name e)) es ≡ called name es w
called_find name [] w = refl
called_find name (e ∷ es) w = rw (called_find name es w) refl

-- the bytes of the word of the count of events
pub spells_events : (w : List ℕ) → length w ≡ 6 → get_or w 0 0 ≡ 101 → get_or w 1 0 ≡ 118 → get_or w 2 0 ≡ 101 → get_or w 3 0 ≡ 110 → get_or w 4 0 ≡ 116 → get_or w 5 0 ≡ 115 → w ≡ codes "events"
spells_events (a ∷ (b ∷ (c ∷ (d ∷ (e ∷ (f ∷ [])))))) h p q r s t u = rw (p, q, r, s, t, u) refl
spells_events [] h p q r s t u = absurd (omega arith)
spells_events (a ∷ []) h p q r s t u = absurd (omega arith)
spells_events (a ∷ (b ∷ [])) h p q r s t u = absurd (omega arith)
spells_events (a ∷ (b ∷ (c ∷ []))) h p q r s t u = absurd (omega arith)
spells_events (a ∷ (b ∷ (c ∷ (d ∷ [])))) h p q r s t u = absurd (omega arith)
spells_events (a ∷ (b ∷ (c ∷ (d ∷ (e ∷ []))))) h p q r s t u = absurd (omega arith)
spells_events (a ∷ (b ∷ (c ∷ (d ∷ (e ∷ (f ∷ (g ∷ w))))))) h p q r s t u = absurd (omega arith)

-- all of some things have the value y
abbrev pub AllAre : {E Y : Type 0} → (E → Y) → Y → List E → Type 0
AllAre f y [] = Unit {0}
AllAre f y (e ∷ es) = (f e ≡ y) × AllAre f y es

pub called_are : {E Y : Type 0} (f : E → Y) (y : Y) (name : E → List ℕ) (es : List E) (w : List ℕ) (e : E) → AllAre f y es → called name es w ≡ Some e → f e ≡ y
called_are f y name [] w e a h = absurd (none-some _ h)
called_are f y name (x ∷ xs) w e a h = go (bytes_eq w (name x)) h (called_are f y name xs w e a.1)
  where
    go : (t : Bool) → cond t (Some x) (called name xs w) ≡ Some e → (called name xs w ≡ Some e → f e ≡ y) → f e ≡ y
    go true k later = let same = same_Some x e k in ap f (sym same) ∙ a.0
    go false k later = later k

-- a sort that is called among those of a letter has the letter
pub sort_letter : (l : Letter) (w : List ℕ) (s : Sort) → called mark (sorts_of l) w ≡ Some s → letter s ≡ l
sort_letter Read w s h = called_are letter Read mark (sorts_of Read) w s (refl, (refl, tt)) h
sort_letter Write w s h = called_are letter Write mark (sorts_of Write) w s (refl, (refl, tt)) h
sort_letter Fence w s h = called_are letter Fence mark (sorts_of Fence) w s (refl, (refl, (refl, (refl, (refl, (refl, (refl, (refl, tt)))))))) h

-- each word calls its own
pub mark_found : (s : Sort) → called mark (sorts_of (letter s)) (mark s) ≡ Some s
mark_found ReadOnce = refl
mark_found ReadAcquire = refl
mark_found WriteOnce = refl
mark_found WriteRelease = refl
mark_found Rmb = refl
mark_found Wmb = refl
mark_found Mb = refl
mark_found RbDep = refl
mark_found RcuLock = refl
mark_found RcuUnlock = refl
mark_found SyncRcu = refl
mark_found Blank = refl

-- and has no space or end of a line in it
pub mark_clear : (s : Sort) → (absent 32 (mark s) ≡ true) × (absent 10 (mark s) ≡ true)
mark_clear ReadOnce = (refl, refl)
mark_clear ReadAcquire = (refl, refl)
mark_clear WriteOnce = (refl, refl)
mark_clear WriteRelease = (refl, refl)
mark_clear Rmb = (refl, refl)
mark_clear Wmb = (refl, refl)
mark_clear Mb = (refl, refl)
mark_clear RbDep = (refl, refl)
mark_clear RcuLock = (refl, refl)
mark_clear RcuUnlock = (refl, refl)
mark_clear SyncRcu = (refl, refl)
mark_clear Blank = (refl, refl)

pub letter_clear : (l : Letter) → (absent 32 (letter_name l) ≡ true) × (absent 10 (letter_name l) ≡ true)
letter_clear Read = (refl, refl)
letter_clear Write = (refl, refl)
letter_clear Fence = (refl, refl)

pub name_clear : (r : Relation) → (absent 32 (relation_name r) ≡ true) × (absent 10 (relation_name r) ≡ true)
name_clear Rf = (refl, refl)
name_clear Co = (refl, refl)
name_clear Addr = (refl, refl)
name_clear Data = (refl, refl)
name_clear Ctrl = (refl, refl)
name_clear Rmw = (refl, refl)
