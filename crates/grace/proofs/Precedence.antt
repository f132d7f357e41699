-- The precedence law.
use Rattle.std.proofs.Common.{◌≡◌, ℕ, zero, suc, ◌+◌, ◌*◌, ◌/◌, ◌%◌, ◌<◌, Bool, true, false, cond, eqb, ◌⊎◌, refl, subst, inl, inr, ⊎_elim, arith}
use Rattle.std.proofs.lemmas.Bool.Decides.{nat_tests}
use Rattle.relations.specs.Algebra.{union}
use Rattle.relations.specs.Chains.{Acyclic}
use Rattle.grace.specs.Scene.{Scene, Sound}
use Rattle.grace.specs.Law.{Kept, Table, pairs, enlarged, PrecedenceLaw}
use Rattle.grace.proofs.Closure.{On, union_left, starts_from, dec_acyclic}
use Rattle.grace.proofs.Trips.{round_mono}
use Rattle.grace.proofs.Grounds.{Clear, relay_mono, clear_mono, one_order}
use Rattle.grace.proofs.Cancel.{no_round}
use Rattle.grace.proofs.Rules.{ground, period_gp, pb_small, link_free, kept_clear, clear_kept}
use Rattle.grace.proofs.Entries.{Fences, no_fences, all_fences, next_section, next_period, table_orders}

-- ---- a table with one entry changed: the one in place i

put : Table → ℕ → Bool → Table
put F i t l s = cond (eqb (l * 64 + s) i) t (F l s)

put_there : (F : Table) (i : ℕ) (t : Bool) → put F i t (i / 64) (i % 64) ≡ t
unfolding put
put_there F i t = grind (arith, nat_tests)

put_before : (F : Table) (i : ℕ) (t : Bool) (l s : ℕ) → l * 64 + s < i → put F i t l s ≡ F l s
unfolding put
put_before F i t l s h = grind (arith, nat_tests)

dec_either : {A B : Type 0} → Dec A → Dec B → Dec (A ⊎ B)
dec_either (yes a) d = yes (inl a)
dec_either (no m) (yes b) = yes (inr b)
dec_either (no m) (no n) = no (⊎_elim m n)

module _ (x : Scene) (sound : Sound x) where
  -- ---- law to rules

  pub obeyed_clear : (F : Table) → Acyclic (enlarged x F) → Clear (ground x) (On (union x.strong (pairs x F)))
  unfolding enlarged
  obeyed_clear F h =
      no_round (ground x) (On (union x.strong (pairs x F))) (table_orders x sound F)
      (λ a b e. union_left _ _ (sound.periods_fence a b (period_gp x sound a b e)))
      (link_free x sound (union x.strong (pairs x F)) h)

  pub clear_obeyed : (F : Table) → Clear (ground x) (Fences x sound F 4096) → Acyclic (enlarged x F)
  unfolding enlarged
  clear_obeyed F clear = (clear_kept x sound (union x.strong (pairs x F)) (clear_mono (all_fences x sound F) clear)).0

  obeyed_kept : (F : Table) → Acyclic (enlarged x F) → Kept x x.strong
  obeyed_kept F h = clear_kept x sound x.strong (clear_mono (λ a b. union_left x.strong (pairs x F)) (obeyed_clear F h))

  -- ---- rules to law: search over the k places from i on

  -- some choice at the k places from i on, F elsewhere, obeys the law
  Choice : ℕ → ℕ → Table → Type 0
  Choice zero i F = Acyclic (enlarged x F)
  Choice (suc k) i F = Choice k (suc i) (put F i true) ⊎ Choice k (suc i) (put F i false)

  choice_table : (k i : ℕ) (F : Table) → Choice k i F → (H : Table) × Acyclic (enlarged x H)
  unfolding Choice
  choice_table zero i F c = (F, c)
  choice_table (suc k) i F (inl c) = choice_table k (suc i) (put F i true) c
  choice_table (suc k) i F (inr c) = choice_table k (suc i) (put F i false) c

  dec_choice : (k i : ℕ) (F : Table) → Dec (Choice k i F)
  unfolding Choice enlarged
  dec_choice zero i F = dec_acyclic (enlarged x F) (starts_from _ (pb_small x sound (union x.strong (pairs x F))))
  dec_choice (suc k) i F = dec_either (dec_choice k (suc i) (put F i true)) (dec_choice k (suc i) (put F i false))

  -- at each place one of the two orders stays clear
  one_stays : (F : Table) (i : ℕ) → Clear (ground x) (Fences x sound F i) → (Clear (ground x) (Fences x sound (put F i true) (suc i)) → ⊥)
      → (Clear (ground x) (Fences x sound (put F i false) (suc i)) → ⊥) → ⊥
  one_stays F i clear n n' =
      n (λ t. n' (λ t'. one_order (ground x) (Fences x sound F i) (i / 64) (i % 64) clear
      (round_mono (relay_mono (next_section x sound F (put F i true) i (λ l s u h. put_before F i true l s h) (put_there F i true))) t)
      (round_mono (relay_mono (next_period x sound F (put F i false) i (λ l s u h. put_before F i false l s h) (put_there F i false))) t')))

  some_choice : (k i : ℕ) (F : Table) → i + k ≡ 4096 → Clear (ground x) (Fences x sound F i) → (Choice k i F → ⊥) → ⊥
  unfolding Choice
  some_choice zero i F e clear never = never (clear_obeyed F (subst (λ j. Clear (ground x) (Fences x sound F j)) (omega arith) clear))
  some_choice (suc k) i F e clear never =
      one_stays F i clear (λ c. some_choice k (suc i) (put F i true) (omega arith) c (λ t. never (inl t)))
      (λ c. some_choice k (suc i) (put F i false) (omega arith) c (λ t. never (inr t)))

  kept_obeyed : Kept x x.strong → (F : Table) × Acyclic (enlarged x F)
  kept_obeyed kept = by (dec_choice 4096 0 any_table)
    where
      any_table : Table
      any_table l s = true

      by : Dec (Choice 4096 0 any_table) → (F : Table) × Acyclic (enlarged x F)
      by (yes c) = choice_table 4096 0 any_table c
      by (no never) = absurd (some_choice 4096 0 any_table refl (clear_mono (no_fences x sound any_table) (kept_clear x sound x.strong kept)) never)

pub precedence_law : PrecedenceLaw
precedence_law x sound = (kept_obeyed x sound, λ h. obeyed_kept x sound h.0 h.1)
