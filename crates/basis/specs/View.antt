-- What a base of the code stands for.
use Rattle.rows.specs.Row.{bit}
use Rattle.relations.specs.View.{rel, size}
use Rattle.basis.specs.Basis.{Basis}
use Rattle.basis.specs.declared.kinds.Base.{Base}

-- its relations and sets
abbrev pub basis_of : Base → Basis
basis_of b = record {
  count = size b.po;
  po = rel b.po;
  int = rel b.int;
  loc = rel b.loc;
  rf = rel b.rf;
  co = rel b.co;
  addr = rel b.addr;
  «data» = rel b.«data»;
  ctrl = rel b.ctrl;
  rmw = rel b.rmw;
  crit = rel b.crit;
  reads = bit b.reads;
  writes = bit b.writes;
  acquires = bit b.acquires;
  releases = bit b.releases;
  rmbs = bit b.rmbs;
  wmbs = bit b.wmbs;
  mbs = bit b.mbs;
  rb_deps = bit b.rb_deps;
  periods = bit b.periods;
}
