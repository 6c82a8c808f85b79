-- The tables that a level's accesses go by have two bits.
-- Assumes nothing.
use Prim.Native.Nat.{ℕ, ◌<◌}
use native.Mathlib.Omega.{arith}
use mathlib.Core.Path.{◌≡◌}
use Rattle.isa.specs.Machine.{ring_of, normal_table_of, alternate_table_of}
use Rattle.isa.specs.Pages.{lowered_pcr}
use Rattle.paging.specs.Levels.{level_rights, on_ring}

-- a PCR with another ring in it
low_ring : (p ring : ℕ) → ring < 4 → ring_of (lowered_pcr p ring) ≡ ring
low_ring p ring h = omega arith

low_normal : (p ring : ℕ) → ring < 4 → normal_table_of (lowered_pcr p ring) ≡ normal_table_of p
low_normal p ring h = omega arith

low_alternate : (p ring : ℕ) → ring < 4 → alternate_table_of (lowered_pcr p ring) ≡ alternate_table_of p
low_alternate p ring h = omega arith

pub ring_rights : (p ring paging extended : ℕ) → ring < 4
    → level_rights (lowered_pcr p ring) paging extended ≡ on_ring (level_rights p paging extended) ring
ring_rights p ring paging extended h = simp (low_ring p ring h, low_normal p ring h, low_alternate p ring h)

-- the PCR with its own ring, and with one ring after another
pub same_ring : (p : ℕ) → lowered_pcr p (ring_of p) ≡ p
same_ring p = omega arith

pub ring_twice : (p ring other : ℕ) → ring < 4 → lowered_pcr (lowered_pcr p ring) other ≡ lowered_pcr p other
ring_twice p ring other h = omega arith
