-- What a level's accesses are judged by, in the parts that the code makes one after the other.
use Rattle.std.specs.Prelude.{ℕ, Bool, cond, not, ◌||◌, leb, eqb}
use Rattle.isa.specs.Machine.{bit, flag_ptm, ring_of, normal_table_of, alternate_table_of}
use Rattle.isa.specs.declared.access.Rights.{Rights}

-- by a PCR and the control words for paging and extended mode, with PTM 1
abbrev pub level_rights : ℕ → ℕ → ℕ → Rights
level_rights p paging extended = record {
  paging = eqb paging 1;
  extended = eqb extended 1;
  ring = ring_of p;
  normal = normal_table_of p;
  alternate = alternate_table_of p;
}

-- with PTM of STS: "With PTM 0 all use the normal table."
abbrev pub by_flags : Rights → ℕ → Rights
by_flags r sts = record {
  paging = r.paging;
  extended = r.extended;
  ring = r.ring;
  normal = r.normal;
  alternate = cond (eqb (bit flag_ptm sts) 1) r.alternate r.normal;
}

-- on another ring
abbrev pub on_ring : Rights → ℕ → Rights
on_ring r ring = record {
  paging = r.paging;
  extended = r.extended;
  ring = ring;
  normal = r.normal;
  alternate = r.alternate;
}

-- whether privileged codes may be executed: Step.privileged, by the rights
abbrev pub privileged_by : Rights → Bool
privileged_by r = not r.paging || leb 2 r.ring
