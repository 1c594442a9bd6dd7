-- The printed text of codes and refusals: scope (document 01), "Cards, rows, program", what the program prints. A text is a list of ASCII bytes.
-- Numbers are decimal, a line ends in a line feed.
use Rattle.std.specs.Prelude.{ℕ, zero, suc, ◌+◌, ◌*◌, ◌/◌, ◌%◌, ◌≡◌, cond, ◌&&◌, List, [], ◌∷◌, ◌++◌, eqb, leb, ltb, length, drop}
use Rattle.std.proofs.lemmas.List.Edits.{sets}
use Rattle.quantity.specs.Component.{red, green, blue, Pixel}
use Rattle.rows.specs.Row.{pixel_at}

-- the character of a number below 10; 48 is `0`
abbrev pub digit : ℕ → ℕ
digit n = 48 + n

-- the decimal digits of n with no zero in front, where n has at most `more` of them after its first
unfoldable pub digits_of : ℕ → ℕ → List ℕ
digits_of zero n = digit n ∷ []
digits_of (suc more) n = cond (ltb n 10) (digit n ∷ []) (digits_of more (n / 10) ++ (digit (n % 10) ∷ []))

-- scope, program: a number in decimal, which never has more than n digits after its first
unfoldable pub decimal : ℕ → List ℕ
decimal n = digits_of n n

abbrev pub space : List ℕ
space = 32 ∷ []

abbrev pub line_feed : List ℕ
line_feed = 10 ∷ []

-- scope, program: the line of a pixel, its red, green and blue codes with one space between
unfoldable pub line : Pixel → List ℕ
line p = decimal (p red) ++ space ++ decimal (p green) ++ space ++ decimal (p blue) ++ line_feed

-- the lines of n pixels in their order
unfoldable pub lines : (ℕ → Pixel) → ℕ → List ℕ
lines p zero = []
lines p (suc n) = lines p n ++ line (p n)

-- `refused` and a space
abbrev pub refused_word : List ℕ
refused_word = 114 ∷ 101 ∷ 102 ∷ 117 ∷ 115 ∷ 101 ∷ 100 ∷ 32 ∷ []

-- scope, program: the last line of a refused title
unfoldable pub refusal_line : ℕ → List ℕ
refusal_line number = refused_word ++ decimal number ++ line_feed

-- the lines of a row of codes, six bytes to a pixel
unfoldable pub row_text : List ℕ → List ℕ
row_text codes = lines (pixel_at codes) (length codes / 6)

-- the row's text for a buffer of so many bytes. The buffer has to have 18 for each pixel, the most that a line takes: three numbers of five
-- digits, two spaces and the line feed. Where it has fewer, or the bytes are not whole pixels, there is no text
unfoldable pub row_text_within : List ℕ → ℕ → List ℕ
row_text_within codes room =
    cond (eqb (length codes % 6) 0 && leb (18 * (length codes / 6)) room) (row_text codes) []

-- the line of three numbers for a buffer of so many bytes; none in fewer than the 63 that three of the longest 64-bit numbers take
unfoldable pub line_within : Pixel → ℕ → List ℕ
line_within p room = cond (leb 63 room) (line p) []

-- the refusal's line for a buffer of so many bytes; none in fewer than the 29 that the longest 64-bit number takes
unfoldable pub refusal_line_within : ℕ → ℕ → List ℕ
refusal_line_within number room = cond (leb 29 room) (refusal_line number) []

-- a text was put into a buffer from a place on, which left the buffer's other bytes; next is the place after the text
pub record Stored (text : List ℕ) (at next : ℕ) (before after : List ℕ) : Type 0 where
  pub place : next ≡ at + length text
  pub bytes : after ≡ sets before at text

-- a buffer whose first bytes have become a text, the rest as it was
abbrev pub opened : List ℕ → List ℕ → List ℕ
opened text buffer = text ++ drop (length text) buffer
