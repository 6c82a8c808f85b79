-- Write, then load: the same machine. The order of load's refusals. And devices that an image does not name.
-- Assumes nothing.
use Rattle.isa.specs.Machine.{table_words}
use Prim.Native.Nat.{ℕ, ◌+◌, ◌≤◌}
use mathlib.Core.Path.{◌≡◌, refl, sym, ap, ◌∙◌}
use mathlib.Core.Bool.{true}
use mathlib.Core.List.{List, [], ◌∷◌, ◌++◌}
use native.Mathlib.Omega.{arith}
use lib.ListN.{take, drop, length, replicate, length-append}
use lib.Seq.{take_at}
use lib.Dec.{eqb}
use borrow.Author.Tests.{le-ltb, lt-ltb, le-leb, eq-eqb, ne_eqb, eqb-true}
use Rattle.isa.specs.Machine.{sizes_fit, memory_size, in_range}
use Rattle.isa.specs.Devices.{device_count, devices_of}
use Rattle.isa.specs.Images.{beside_memory, contents_size, ImageEntry, kind_devices, placed}
use Rattle.isa.specs.Images.{contents_fit, contents, bodies, entries_answer, meets, named_words, loaded_state}
use Rattle.isa.specs.Images.{loaded_words, contents_words, image_of, image_size}
use Rattle.isa.specs.Answers.{LoadCall, load_call, load_call_by, load_answer, state_answer, write_answer, written_output}
use Rattle.isa.specs.declared.machine.State.{State}
use Rattle.isa.proofs.Tests.{and_both, and_right}
use Rattle.isa.proofs.ControlWords.{state_of_words}
use Rattle.roundtrip.specs.Statement.{Machine, Loads, RoundTrip, LoadOrder, Either, machine, refusal, Without}
use Rattle.roundtrip.specs.Statement.{LoadsClearedDevices}
use Rattle.roundtrip.proofs.Contents.{body_words, five, after_memory, entry_count_law, contents_five, bodies_all}
use Rattle.roundtrip.proofs.Contents.{bodies_length, loaded_memory, loaded_registers, loaded_control}
use Rattle.roundtrip.proofs.Contents.{loaded_tables, loaded_devices}
use Rattle.std.specs.declared.result.Result.TheVariants.{Ok, Err}
use Rattle.isa.specs.Answers.{Answer}

-- ---- the order of load's refusals

pub load_order : (i m t : List ℕ) → LoadOrder i m t
unfolding load_answer
load_order i m t = record {
  sizes = λ a. rw a;
  contents_short = λ a b. rw (a, b);
  entry = λ r a b c. rw (a, b, c);
  bodies_differ = λ a b c d. rw (a, b, c, d);
  state = λ a b c d e. rw (a, b, c, d, e);
  loaded = λ a b c d e. rw (a, b, c, d, e);
}

pub load_either : (s : State) (i m t : List ℕ) → Either s i m t (load_call s i m t)
unfolding load_call
load_either s i m t = go (load_answer i m t)
  where
    go : (x : Answer) → Either s i m t (load_call_by x s i m t)
    go (Ok _) = machine refl
    go (Err x) = refusal x refl

-- ---- an image without devices

-- entries of other kinds leave a target as it is
placed_without : (k : ℕ) (es : List ImageEntry) (body target : List ℕ) → Without k es
    → placed k es body target ≡ target
placed_without k [] body target h = refl
placed_without k (e ∷ es) body target h =
    rw (ne_eqb e.kind k h.0) (placed_without k es (drop e.count body) target h.1)

pub loads_cleared_devices : LoadsClearedDevices
unfolding loaded_words
loads_cleared_devices i h =
    ap devices_of (placed_without kind_devices (contents i) (bodies i) (replicate device_count 0) h)

-- ---- the five entries

-- five full entries of different kinds are refused by none of the tests
five_pass : (words : ℕ) → entries_answer words [] (five words) ≡ Ok tt
unfolding meets
five_pass words = rw (le-ltb words (0 + words) q)
  where
    q : 0 + words ≤ words
    q = omega arith

module _ (s : State) (m t : List ℕ) (h : Machine s m t) where
  tables_length : length t ≡ table_words
  unfolding sizes_fit
  tables_length =
      eqb-true (length t) table_words (and_right (memory_size (length m)) (eqb (length t) table_words) h.sizes)

  image_length : length (image_of s m t) ≡ length m + beside_memory
  unfolding image_of
  image_length = length-append (contents_words (length m)) (m ++ after_memory s m t) ∙ e
    where
      e : contents_size + length (m ++ after_memory s m t) ≡ length m + beside_memory
      e = omega (arith, bodies_length s m t h.typed.regs_length h.typed.pcr_length tables_length)

  image_fits : contents_fit (image_of s m t) ≡ true
  unfolding contents_fit
  image_fits =
      rw (entry_count_law s m t, image_length)
      (and_both (and_both (lt-ltb 0 (length m + beside_memory) (omega arith)) refl)
      (le-leb contents_size (length m + beside_memory) (omega arith)))

  loaded_state_law : loaded_state (image_of s m t) ≡ s
  loaded_state_law =
      rw (
        loaded_registers s m t h.typed.regs_length h.typed.pcr_length tables_length,
        loaded_control s m t h.typed.regs_length h.typed.pcr_length tables_length,
        loaded_devices s m t h.typed.regs_length h.typed.pcr_length tables_length,
      )
      (state_of_words s h.typed.pcr_length)

  named_all : eqb (named_words (contents (image_of s m t))) (length (bodies (image_of s m t))) ≡ true
  named_all =
      eq-eqb _ _
      (ap named_words (contents_five s m t)
      ∙ q
      ∙ sym (ap length (bodies_all s m t)
      ∙ bodies_length s m t h.typed.regs_length h.typed.pcr_length tables_length))
    where
      q : named_words (five (length m)) ≡ length m + body_words
      q = omega arith

  -- as much memory as the image has
  module _ (m₀ t₀ : List ℕ) (hm : length m₀ ≡ length m) (ht : length t₀ ≡ length t) where
    sizes_same : sizes_fit m₀ t₀ ≡ true
    unfolding sizes_fit
    sizes_same = rw (hm, ht) h.sizes

    image_accepted : load_answer (image_of s m t) m₀ t₀ ≡ Ok tt
    image_accepted =
        (load_order (image_of s m t) m₀ t₀).loaded sizes_same image_fits
        (ap (λ (n : ℕ). entries_answer n [] (contents (image_of s m t))) hm
        ∙ ap (entries_answer (length m) []) (contents_five s m t) ∙ five_pass (length m))
        named_all
        (ap in_range loaded_state_law ∙ h.range)

  image_loads : Loads s m t (image_of s m t)
  unfolding load_call
  image_loads = record { loads = λ s₀ m₀ t₀ hm ht. rw (image_accepted m₀ t₀ hm ht) (whole m₀ hm) }
    where
      whole : (m₀ : List ℕ) → length m₀ ≡ length m
          → ◌≡◌ {A = LoadCall} (record {
            answer = Ok tt;
            state = loaded_state (image_of s m t);
            memory = loaded_words 1 (length m₀) (image_of s m t);
            tables = loaded_words 4 table_words (image_of s m t);
          })
          (record { answer = Ok tt; state = s; memory = m; tables = t })
      whole m₀ hm =
          rw (
            loaded_state_law,
            hm,
            loaded_memory s m t h.typed.regs_length h.typed.pcr_length tables_length,
            loaded_tables s m t h.typed.regs_length h.typed.pcr_length tables_length,
          )

  -- what write leaves in an output that is long enough
  write_done : (out : List ℕ) → image_size m ≤ length out → write_answer s m t out ≡ Ok tt
  unfolding write_answer state_answer
  write_done out l = rw (h.sizes, h.range, le-ltb (length out) (image_size m) l)

  pub written_image : (out : List ℕ) → image_size m ≤ length out
      → take (image_size m) (written_output s m t out) ≡ image_of s m t
  unfolding written_output
  written_image out l =
      rw (write_done out l) (take_at (image_of s m t) (drop (image_size m) out) (image_size m) image_length)

  -- THE THEOREM
  pub round_trip : RoundTrip s m t
  round_trip = record { image = image_loads; output = λ out l. rw (written_image out l) image_loads }
