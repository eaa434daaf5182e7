-- Words with some of their bits changed.
use Rattle.std.specs.Prelude.{ℕ, zero, suc, ◌+◌, ◌-◌, ◌*◌, ◌/◌, ◌%◌, ◌^◌, Bool, true, false}
use Rattle.nt_value.specs.Stored.{bit_of}

-- the bit at a place counted from the lowest, and the other bits as they were
unfoldable pub with_bit_at : ℕ → ℕ → Bool → ℕ
with_bit_at word zero bit = bit_of bit + word / 2 * 2
with_bit_at word (suc at) bit = word % 2 + with_bit_at (word / 2) at bit * 2

-- the highest bit of a signed word, and 0 of another
abbrev pub top_bit : Bool → ℕ → ℕ → ℕ
top_bit true word width = word / 2 ^ (width - 1)
top_bit false word width = 0

-- a bit at each of the lowest places
abbrev pub all_bits : ℕ → ℕ → ℕ
all_bits zero places = 0
all_bits (suc b) places = 2 ^ places - 1

-- a word of this width, and a bit at each place above it
abbrev pub extended_word : ℕ → ℕ → ℕ → ℕ
extended_word word width bit = word + 2 ^ width * all_bits bit (64 - width)

-- the bits of a part at a place, and the other bits as they were
abbrev pub put_word : ℕ → ℕ → ℕ → ℕ → ℕ
put_word word low width part = word % 2 ^ low + 2 ^ low * (part + 2 ^ width * (word / 2 ^ (low + width)))
