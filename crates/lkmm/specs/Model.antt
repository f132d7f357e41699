-- The relations of the Linux-kernel memory model, line by line as Alglave, Maranget, McKenney, Parri and Stern publish them
-- (ASPLOS 2018). Each name is theirs. Everything is over a basis: program order, reads-from, coherence and so on.
use Rattle.relations.specs.Algebra.{Set, Rel, union, inter, diff, inverse, seq, plus, opt, star, product, from, to}
use Rattle.basis.specs.Basis.{Basis, id, ext}

-- ---- communications

-- fr := rf^-1 ; co    from-reads: a read comes before the writes that overwrite what it read
unfoldable pub fr : Basis → Rel
fr b = seq (inverse b.rf) b.co

-- com := rf ∪ co ∪ fr
unfoldable pub «com» : Basis → Rel
«com» b = union b.rf (union b.co (fr b))

-- po-loc := po ∩ loc
unfoldable pub po_loc : Basis → Rel
po_loc b = inter b.po b.loc

-- rfi := rf ∩ int, and e for ext in place of i for int
unfoldable pub rfi : Basis → Rel
rfi b = inter b.rf b.int

unfoldable pub rfe : Basis → Rel
rfe b = inter b.rf (ext b)

unfoldable pub «coe» : Basis → Rel
«coe» b = inter b.co (ext b)

unfoldable pub fre : Basis → Rel
fre b = inter (fr b) (ext b)

-- ---- program order with a fence or a mark

-- the pairs of program order with an event of S between
unfoldable pub between : Set → Basis → Rel
between s b = seq (to b.po s) b.po

-- mb: with an mb between
unfoldable pub mb : Basis → Rel
mb b = between b.mbs b

-- rmb and rb-dep: reads with such a fence between
unfoldable pub rmb : Basis → Rel
rmb b = from b.reads (to (between b.rmbs b) b.reads)

unfoldable pub rb_dep : Basis → Rel
rb_dep b = from b.reads (to (between b.rb_deps b) b.reads)

-- wmb: writes with a wmb between
unfoldable pub wmb : Basis → Rel
wmb b = from b.writes (to (between b.wmbs b) b.writes)

-- acq-po: from an acquire
unfoldable pub acq_po : Basis → Rel
acq_po b = from b.acquires b.po

-- po-rel: to a release
unfoldable pub po_rel : Basis → Rel
po_rel b = to b.po b.releases

-- rfi-rel-acq: an internal reads-from from a release to an acquire
unfoldable pub rfi_rel_acq : Basis → Rel
rfi_rel_acq b = from b.releases (to (rfi b) b.acquires)

-- gp := (po ∩ (_ × Sync)) ; po?    to a sync-rcu, or with one between
unfoldable pub gp : Basis → Rel
gp b = seq (to b.po b.periods) (opt b.count b.po)

-- strong-fence := mb ∪ gp
unfoldable pub strong_fence : Basis → Rel
strong_fence b = union (mb b) (gp b)

-- ---- preserved program order

-- dep := addr ∪ data
unfoldable pub dep : Basis → Rel
dep b = union b.addr b.«data»

-- rwdep := (dep ∪ ctrl) ∩ (R × W)
unfoldable pub rwdep : Basis → Rel
rwdep b = inter (union (dep b) b.ctrl) (product b.reads b.writes)

-- overwrite := co ∪ fr
unfoldable pub overwrite : Basis → Rel
overwrite b = union b.co (fr b)

-- to-w := rwdep ∪ (overwrite ∩ int)
unfoldable pub to_w : Basis → Rel
to_w b = union (rwdep b) (inter (overwrite b) b.int)

-- rrdep := addr ∪ (dep ; rfi)
unfoldable pub rrdep : Basis → Rel
rrdep b = union b.addr (seq (dep b) (rfi b))

-- strong-rrdep := rrdep+ ∩ rb-dep
unfoldable pub strong_rrdep : Basis → Rel
strong_rrdep b = inter (plus (rrdep b)) (rb_dep b)

-- to-r := strong-rrdep ∪ rfi-rel-acq
unfoldable pub to_r : Basis → Rel
to_r b = union (strong_rrdep b) (rfi_rel_acq b)

-- fence := strong-fence ∪ po-rel ∪ wmb ∪ rmb ∪ acq-po
unfoldable pub fence : Basis → Rel
fence b = union (strong_fence b) (union (po_rel b) (union (wmb b) (union (rmb b) (acq_po b))))

-- ppo := rrdep* ; (to-r ∪ to-w ∪ fence)
unfoldable pub ppo : Basis → Rel
ppo b = seq (star b.count (rrdep b)) (union (to_r b) (union (to_w b) (fence b)))

-- ---- propagation

-- cumul-fence := A-cumul(strong-fence ∪ po-rel) ∪ wmb, where A-cumul(r) := rfe? ; r
unfoldable pub cumul_fence : Basis → Rel
cumul_fence b = union (seq (opt b.count (rfe b)) (union (strong_fence b) (po_rel b))) (wmb b)

-- prop := (overwrite ∩ ext)? ; cumul-fence* ; rfe?
unfoldable pub prop : Basis → Rel
prop b = seq (opt b.count (inter (overwrite b) (ext b))) (seq (star b.count (cumul_fence b)) (opt b.count (rfe b)))

-- ---- the relations that the rules speak of

-- hb := ((prop \ id) ∩ int) ∪ ppo ∪ rfe
unfoldable pub hb : Basis → Rel
hb b = union (inter (diff (prop b) (id b)) b.int) (union (ppo b) (rfe b))

-- pb := prop ; strong-fence ; hb*
unfoldable pub pb : Basis → Rel
pb b = seq (prop b) (seq (strong_fence b) (star b.count (hb b)))

-- link := hb* ; pb* ; prop
unfoldable pub link : Basis → Rel
link b = seq (star b.count (hb b)) (seq (star b.count (pb b)) (prop b))

-- rscs := po ; crit^-1 ; po?
unfoldable pub rscs : Basis → Rel
rscs b = seq b.po (seq (inverse b.crit) (opt b.count b.po))
