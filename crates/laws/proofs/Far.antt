-- What is kept by all that a step does outside the running level.
-- Assumes nothing.
use Prim.Native.Nat.{ℕ, ◌%◌}
use mathlib.Core.Bool.{◌&&◌}
use mathlib.Core.List.{List, [], ◌∷◌}
use lib.Dec.{eqb}
use Rattle.isa.specs.Machine.{core_of, with_core}
use Rattle.isa.specs.Pages.{Tested, fault_number, words_at}
use Rattle.isa.specs.Step.{Part, Turn, faulted, with_regs, with_pcrs, is_p, put_other, block_order, put_block, block_stored}
use Rattle.isa.specs.Step.{block_loaded, block_tested, far_stage, settled}
use Rattle.isa.specs.declared.machine.State.{State}
use Rattle.isa.specs.declared.machine.Register.{Register}
use Rattle.isa.specs.declared.access.AccessKind.TheVariants.{Read, Write}
use Rattle.std.specs.declared.option.Option.{Option}
use Rattle.std.specs.declared.option.Option.TheVariants.{None, Some}
use Rattle.isa.specs.declared.access.Fault.{Fault}
use Rattle.isa.specs.declared.answer.Far.{Far}
use Rattle.isa.specs.declared.answer.Far.TheVariants.{Call, ReadRegister, WriteRegister, ReadPcr, WritePcr}
use Rattle.isa.specs.declared.answer.Far.TheVariants.{StoreBlock, LoadBlock}
use Rattle.isa.proofs.Tests.{either, by_fault}

-- K is kept by new registers and new PCRs, and by a block's fault where F holds of its number
module _ (K : State → Type 0) (F : ℕ → Type 0) (regs : (s : State) (b : List ℕ) → K s → K (with_regs s b))
    (pcrs : (s : State) (p : List ℕ) → K s → K (with_pcrs s p))
    (fault : (s : State) (x : Fault) → K s → F (fault_number x) → K (with_core s (faulted (Some x) (core_of s)))) where
  -- .. so by a step, where F holds of what it gave
  abbrev Keeps : Turn → Type 0
  Keeps r = F r.gave → K r.state

  other_keeps : (s : State) (l : ℕ) (r : Register) (w : ℕ) → K s → K (put_other s l r w)
  unfolding put_other
  other_keeps s l r w h = either K (eqb (l % 16) s.level && is_p r) h (regs s _ h)

  block_keeps : (rs : List Register) (s : State) (l : ℕ) (ws : List ℕ) → K s → K (put_block s l rs ws)
  block_keeps [] s l ws h = h
  block_keeps (r ∷ rs) s l [] h = h
  block_keeps (r ∷ rs) s l (w ∷ ws) h = block_keeps rs (put_other s l r w) l ws (other_keeps s l r w h)

  stored_keeps : (s : State) (l : ℕ) (m : List ℕ) (r : Tested) → K s → Keeps (block_stored s l m r)
  unfolding block_stored
  stored_keeps s l m r h = by_fault Keeps r.fault (λ f. h) (λ x. fault s x h)

  loaded_keeps : (s : State) (l : ℕ) (m : List ℕ) (r : Tested) → K s → Keeps (block_loaded s l m r)
  unfolding block_loaded
  loaded_keeps s l m r h =
      by_fault Keeps r.fault (λ f. block_keeps block_order s l (words_at m r.tables r.places) h) (λ x. fault s x h)

  far_keeps : (s : State) (n : ℕ) (m t : List ℕ) (x : Option Far) → K s → Keeps (far_stage s n m t x)
  unfolding far_stage
  far_keeps s n m t None h f = h
  far_keeps s n m t (Some (Call w)) h f = regs s _ h
  far_keeps s n m t (Some (ReadRegister l r)) h f = regs s _ h
  far_keeps s n m t (Some (WriteRegister l r)) h f = other_keeps s l r _ h
  far_keeps s n m t (Some ReadPcr) h f = regs s _ h
  far_keeps s n m t (Some WritePcr) h f = pcrs s _ h
  far_keeps s n m t (Some (StoreBlock l)) h f = stored_keeps s l m (block_tested Write s m t) h f
  far_keeps s n m t (Some (LoadBlock l)) h f = loaded_keeps s l m (block_tested Read s m t) h f

  pub settled_keeps : (s : State) (r : Part) → K (with_core s r.near.core) → Keeps (settled s r)
  unfolding settled
  settled_keeps s r = far_keeps (with_core s r.near.core) r.near.gave r.memory r.tables r.near.far
