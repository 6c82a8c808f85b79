-- The page tables as addresses: who does not see them.
-- Assumes nothing.
use Rattle.std.proofs.Common.{◌≡◌, ℕ, ◌<◌, Bool, true, false, not, ◌&&◌, ◌||◌, leb, refl, arith, ne_eqb}
use Rattle.isa.specs.Pages.{in_window, window_start}
use Rattle.isa.specs.declared.access.Rights.{Rights}

-- with paging on, rings 0 to 2 reach no page table by an address
pub no_window : (r : Rights) (a : ℕ) → r.paging ≡ true → r.ring < 3 → in_window r a ≡ false
unfolding in_window
no_window r a on low = rw (on, ne_eqb r.ring 3 (λ q. omega (arith, q))) (go (leb (window_start r.extended) a))
  where
    go : (b : Bool) → (b && (not true || false)) ≡ false
    go true = refl
    go false = refl
