-- A run that goes on.
use Rattle.std.proofs.Common.{◌≡◌, ℕ, ◌+◌, ◌<◌, ◌≤◌, Bool, true, false, cond, ltb, List, [], ◌∷◌, ◌++◌, length, get_or, take, drop, set, Ok, Err, Result, sym, refl, ap, ◌∙◌, subst, subst₂, arith}
use Rattle.std.proofs.lemmas.List.{take_more, take_more_set, drop-set-lt, drop-drop}
use Rattle.std.proofs.lemmas.Bool.{or_parts, ltb-false}
use Rattle.executions.specs.declared.faults.Fault.{Fault}
use Rattle.tables.specs.Plain.{Plain, blank, short, open_plain}
use Rattle.runs.specs.declared.kinds.Answer.{Answer}
use Rattle.runs.specs.declared.kinds.Call.{Call}
use Rattle.runs.specs.Runs.{Run, Run.opened, Run.more, Step}

-- tables that open takes are long enough
accepted : (b : Bool) (f : Fault) → ◌≡◌ {A = Result Plain Fault} (cond b (Err f) (Ok blank)) (Ok blank) → b ≡ false
accepted true f e = let z : ◌≡◌ {A = ℕ} 0 1 = cc in absurd (omega arith)
accepted false f e = refl

pub open_long : (m n : ℕ) → open_plain m n ≡ Ok blank → (64 ≤ m) × (384 ≤ n)
open_long m n e = let s = or_parts (ltb m 64) (ltb n 384) (accepted (short m n) _ e) in (ltb-false m 64 s.0, ltb-false n 384 s.1)

pub begun : (m n : ℕ) (p : Plain) → p ≡ blank → Run m n [] [] p
begun m n p e = subst (λ (q : Plain). Run m n [] [] q) (sym e) opened

-- one call more
pub run_more : (m n m' n' : ℕ) (calls : List Call) (answers : List Answer) (i : ℕ) (p q : Plain) (c : Call) (a : Answer) → m ≡ m' → n ≡ n' → i < length calls → i < length answers → get_or calls i c ≡ c
    → Run m n (take i calls) (take i answers) p → Step m n p c a q → Run m' n' (take (i + 1) calls) (take (i + 1) (set answers i a)) q
run_more m n m' n' calls answers i p q c a e f l k here so_far next =
    subst₂ (λ (x y : ℕ). Run x y (take (i + 1) calls) (take (i + 1) (set answers i a)) q) e f
    (subst₂ (λ (cs : List Call) (gs : List Answer). Run m n cs gs q)
    (sym (take_more calls i c l ∙ ap (λ (d : Call). take i calls ++ d ∷ []) here)) (sym (take_more_set answers i a k)) (more c a so_far next))

-- the answers that are still to come
pub rest_more : (answers before : List Answer) (i : ℕ) (a : Answer) → drop i answers ≡ drop i before → drop (i + 1) (set answers i a) ≡ drop (i + 1) before
rest_more answers before i a e = drop-set-lt (i + 1) answers i a (omega arith) ∙ sym (drop-drop 1 i answers) ∙ ap (drop 1) e ∙ drop-drop 1 i before
