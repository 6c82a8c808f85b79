-- Document 01, "Images": a list of contents first, then the bodies, in words.
use Rattle.std.specs.Prelude.{ℕ, zero, suc, ◌+◌, ◌*◌, ◌/◌, ◌%◌, Bool, false, cond, not, ◌&&◌, ◌||◌, List, [], ◌∷◌, ◌++◌, length, drop, replicate, ◌==◌, nat_le, nat_lt, slice_index}
use Rattle.std.proofs.Math.Seq.{paste}
use Rattle.isa.specs.Devices.{device_count, device_words}
use Rattle.isa.specs.Machine.{word_range, register_words, control_count, table_words, control_words, state_of}
use Rattle.isa.specs.declared.machine.State.{State}
use Rattle.isa.specs.declared.answer.Refusal.TheVariants.{Kind, Target, Overlap}
use Rattle.std.specs.declared.result.Result.TheVariants.{Ok, Err}
use Rattle.std.specs.declared.result.Result.{Result}
use Rattle.isa.specs.declared.answer.Refusal.{Refusal}

-- "An entry is five words: kind .. start (two words, high first), length (two)."
pub record ImageEntry : Type 0 where
  pub kind : ℕ
  pub start : ℕ
  pub count : ℕ

abbrev pub entry_size : ℕ
entry_size = 5

abbrev pub high_low : ℕ → ℕ → ℕ
high_low high low = high * word_range + low

-- `contents_fit` below is tested first, so all five words are there
abbrev pub image_entry_of : List ℕ → ImageEntry
image_entry_of ws = record {
  kind = slice_index ws 0;
  start = high_low (slice_index ws 1) (slice_index ws 2);
  count = high_low (slice_index ws 3) (slice_index ws 4);
}

-- so many entries from the front of the words
abbrev pub entries_of : ℕ → List ℕ → List ImageEntry
entries_of zero ws = []
entries_of (suc n) ws = image_entry_of ws ∷ entries_of n (drop entry_size ws)

-- "Word 0: number of entries"; the entries; "Bodies follow in entry order"
abbrev pub entry_count : List ℕ → ℕ
entry_count i = slice_index i 0

abbrev pub contents : List ℕ → List ImageEntry
contents i = entries_of (entry_count i) (drop 1 i)

abbrev pub bodies : List ℕ → List ℕ
bodies i = drop (1 + entry_count i * entry_size) i

-- "Word 0: number of entries, 0 to 32."; "contents short or over 32 entries". Ruling 26: without a word 0, or with
-- fewer than 1 + 5n words, they are short.
abbrev pub most_entries : ℕ
most_entries = 32

unfoldable pub contents_fit : List ℕ → Bool
contents_fit i =
    nat_lt 0 (length i) && nat_le (entry_count i) most_entries && nat_le (1 + entry_count i * entry_size) (length i)

-- "kind (1 memory, 2 registers at 8 × level + number, 3 control words, 4 page tables)"; document 02, card 1: "Images
-- gain kind 5, the devices' words": a kind's size, with so many words of memory; size_of is asked for known kinds only,
-- so what is not 1 to 4 is 5
abbrev pub kind_memory : ℕ
kind_memory = 1

abbrev pub kind_registers : ℕ
kind_registers = 2

abbrev pub kind_control : ℕ
kind_control = 3

abbrev pub kind_tables : ℕ
kind_tables = 4

abbrev pub kind_devices : ℕ
kind_devices = 5

abbrev pub known_kind : ℕ → Bool
known_kind k = nat_le kind_memory k && nat_le k kind_devices

abbrev pub size_of : ℕ → ℕ → ℕ
size_of words k =
    cond (k == kind_memory) words
    (cond (k == kind_registers) register_words
    (cond (k == kind_control) control_count (cond (k == kind_tables) table_words device_count)))

-- "covering a word already named": two entries that meet. "A length of 0 covers nothing." Ruling 26: entries overlap
-- only within one kind.
unfoldable pub meets : ImageEntry → ImageEntry → Bool
meets a b =
    (a.kind == b.kind) && nat_lt 0 a.count && nat_lt 0 b.count && nat_lt a.start (b.start + b.count)
    && nat_lt b.start (a.start + a.count)

abbrev pub meets_any : ImageEntry → List ImageEntry → Bool
meets_any a [] = false
meets_any a (b ∷ bs) = meets a b || meets_any a bs

-- "for each entry 5, unknown kind, 6, start plus length beyond its target's size, 7, covering a word already named":
-- the entries after those seen, one by one (ruling 26)
abbrev pub entries_answer : ℕ → List ImageEntry → List ImageEntry → Result (Unit {0}) Refusal
entries_answer words seen [] = Ok tt
entries_answer words seen (e ∷ es) =
    cond (not (known_kind e.kind)) (Err Kind)
    (cond (nat_lt (size_of words e.kind) (e.start + e.count)) (Err Target)
    (cond (meets_any e seen) (Err Overlap) (entries_answer words (e ∷ seen) es)))

-- the words that the entries name in all
abbrev pub named_words : List ImageEntry → ℕ
named_words [] = 0
named_words (e ∷ es) = e.count + named_words es

-- The words of a kind after loading: each entry's body in its place. "words not named load as 0". The refusals before
-- have made sure that each place and each body is there.
abbrev pub placed : ℕ → List ImageEntry → List ℕ → List ℕ → List ℕ
placed k [] body target = target
placed k (e ∷ es) body target =
    placed k es (drop e.count body) (cond (e.kind == k) (paste target e.start body e.count) target)

unfoldable pub loaded_words : ℕ → ℕ → List ℕ → List ℕ
loaded_words k size i = placed k (contents i) (bodies i) (replicate size 0)

-- "an image without it loads cleared devices": words not named load as 0
abbrev pub loaded_state : List ℕ → State
loaded_state i =
    state_of (loaded_words kind_registers register_words i) (loaded_words kind_control control_count i)
    (loaded_words kind_devices device_count i)

-- "The writer puts four full entries, kinds 1 to 4"; document 02, card 3: "The writer's size grows by one."; card 4:
-- "The writer's size follows; kind 4 runs to 512."; card 1: "the writer adds it as a fifth full entry"
abbrev pub entry_words : ℕ → ℕ → List ℕ
entry_words k n = k ∷ 0 ∷ 0 ∷ n / word_range ∷ n % word_range ∷ []

abbrev pub contents_words : ℕ → List ℕ
contents_words words =
    5
    ∷ (entry_words kind_memory words
    ++ (entry_words kind_registers register_words
    ++ (entry_words kind_control control_count
    ++ (entry_words kind_tables table_words ++ entry_words kind_devices device_count))))

unfoldable pub image_of : State → List ℕ → List ℕ → List ℕ
image_of s m t = contents_words (length m) ++ (m ++ (s.regs ++ (control_words s ++ (t ++ device_words s.devices))))

-- the list of contents, its word 0 and five entries; and with it the words beside memory: 706
abbrev pub contents_size : ℕ
contents_size = 26

abbrev pub beside_memory : ℕ
beside_memory = contents_size + register_words + control_count + table_words + device_count

abbrev pub image_size : List ℕ → ℕ
image_size m = length m + beside_memory
