-- What load finds in an image that write gave: five full entries, and the bodies one after the other.
-- Assumes nothing.
use Rattle.isa.specs.Machine.{control_count, level_count, register_words, table_words}
use Prim.Native.Nat.{ℕ, ◌+◌, ◌≤◌}
use mathlib.Core.Path.{◌≡◌, refl, ap, ◌∙◌}
use mathlib.Core.List.{List, [], ◌∷◌, ◌++◌, append-nil}
use native.Mathlib.Omega.{arith}
use native.Mathlib.Nat.{div-add-mod'}
use lib.ListN.{drop, length, replicate, length-append, length-replicate, drop_of_length-le}
use lib.Seq.{paste, take_at, drop_at}
use Rattle.isa.specs.Machine.{state_words, control_words}
use Rattle.isa.specs.Devices.{device_count, device_words}
use Rattle.isa.specs.Images.{ImageEntry, entry_count, contents, bodies, placed, loaded_words, image_of}
use Rattle.isa.specs.declared.machine.State.{State}
use Rattle.isa.proofs.ControlWords.{control_length}

-- the words of the bodies beside memory
abbrev pub body_words : ℕ
body_words = state_words + table_words

-- a full entry of a kind
abbrev pub full : ℕ → ℕ → ImageEntry
full k n = record { kind = k; start = 0; count = n }

abbrev pub five : ℕ → List ImageEntry
five n = full 1 n ∷ full 2 register_words ∷ full 3 control_count ∷ full 4 table_words ∷ full 5 device_count ∷ []

-- a body that fills its target replaces it
fill : (n : ℕ) (target xs rest : List ℕ) → length target ≡ n → length xs ≡ n → paste target 0 (xs ++ rest) n ≡ xs
fill n target xs rest h l =
    ap (λ (x : List ℕ). x ++ drop (0 + n) target) (take_at xs rest n l)
    ∙ ap (λ (x : List ℕ). xs ++ x) (drop_of_length-le target q)
    ∙ append-nil xs
  where
    q : length target ≤ 0 + n
    q = omega arith

module _ (s : State) (m t : List ℕ) where
  pub contents_five : contents (image_of s m t) ≡ five (length m)
  unfolding image_of
  contents_five = ap five (div-add-mod' (length m) 65536)

  pub entry_count_law : entry_count (image_of s m t) ≡ 5
  unfolding image_of
  entry_count_law = refl

  -- registers, control words, tables and devices' words: what follows the memory
  abbrev last_words : List ℕ
  last_words = t ++ device_words s.devices

  abbrev pub after_memory : List ℕ
  after_memory = s.regs ++ (control_words s ++ last_words)

  pub bodies_all : bodies (image_of s m t) ≡ m ++ after_memory
  unfolding image_of
  bodies_all = refl

  module _ (hr : length s.regs ≡ register_words) (hp : length s.pcr ≡ level_count)
      (ht : length t ≡ table_words) where
    pub bodies_length : length (m ++ after_memory) ≡ length m + body_words
    bodies_length =
        length-append m after_memory
        ∙ ap (λ (x : ℕ). length m + x) (length-append s.regs (control_words s ++ last_words))
        ∙ ap (λ (x : ℕ). length m + (length s.regs + x)) (length-append (control_words s) last_words)
        ∙ ap (λ (x : ℕ). length m + (length s.regs + (length (control_words s) + x)))
        (length-append t (device_words s.devices))
        ∙ e
      where
        e : length m + (length s.regs + (length (control_words s) + (length t + device_count))) ≡ length m + body_words
        e = omega (arith, hr, control_length s hp, ht)

    -- what the five entries leave of a target of each kind
    by_five : (k size : ℕ) → loaded_words k size (image_of s m t)
        ≡ placed k (five (length m)) (m ++ after_memory) (replicate size 0)
    unfolding loaded_words
    by_five k size =
        ap (λ (es : List ImageEntry). placed k es (bodies (image_of s m t)) (replicate size 0)) contents_five
        ∙ ap (λ (b : List ℕ). placed k (five (length m)) b (replicate size 0)) bodies_all

    dropped_memory : drop (length m) (m ++ after_memory) ≡ after_memory
    dropped_memory = drop_at m after_memory (length m) refl

    dropped_registers : drop register_words (drop (length m) (m ++ after_memory)) ≡ control_words s ++ last_words
    dropped_registers =
        ap (drop register_words) dropped_memory ∙ drop_at s.regs (control_words s ++ last_words) register_words hr

    dropped_control : drop control_count (drop register_words (drop (length m) (m ++ after_memory))) ≡ last_words
    dropped_control =
        ap (drop control_count) dropped_registers
        ∙ drop_at (control_words s) last_words control_count (control_length s hp)

    dropped_tables : drop table_words (drop control_count (drop register_words (drop (length m) (m ++ after_memory))))
        ≡ device_words s.devices
    dropped_tables =
        ap (drop table_words) dropped_control ∙ drop_at t (device_words s.devices) table_words ht

    pub loaded_memory : loaded_words 1 (length m) (image_of s m t) ≡ m
    loaded_memory =
        by_five 1 (length m)
        ∙ fill (length m) (replicate (length m) 0) m after_memory (length-replicate (length m) 0) refl

    pub loaded_registers : loaded_words 2 register_words (image_of s m t) ≡ s.regs
    loaded_registers =
        by_five 2 register_words
        ∙ ap (λ (b : List ℕ). paste (replicate register_words 0) 0 b register_words) dropped_memory
        ∙ fill register_words (replicate register_words 0) s.regs (control_words s ++ last_words)
        (length-replicate {A = ℕ} register_words 0) hr

    pub loaded_control : loaded_words 3 control_count (image_of s m t) ≡ control_words s
    loaded_control =
        by_five 3 control_count
        ∙ ap (λ (b : List ℕ). paste (replicate control_count 0) 0 b control_count) dropped_registers
        ∙ fill control_count (replicate control_count 0) (control_words s) last_words
        (length-replicate {A = ℕ} control_count 0) (control_length s hp)

    pub loaded_tables : loaded_words 4 table_words (image_of s m t) ≡ t
    loaded_tables =
        by_five 4 table_words
        ∙ ap (λ (b : List ℕ). paste (replicate table_words 0) 0 b table_words) dropped_control
        ∙ fill table_words (replicate table_words 0) t (device_words s.devices)
        (length-replicate {A = ℕ} table_words 0) ht

    pub loaded_devices : loaded_words 5 device_count (image_of s m t) ≡ device_words s.devices
    loaded_devices =
        by_five 5 device_count
        ∙ ap (λ (b : List ℕ). paste (replicate device_count 0) 0 b device_count) dropped_tables
