-- Laws of a card, from the definitions: which bytes have an unknown bit, what each outcome says of a card, and what bytes that come after it change.
use Prim.Native.Nat.{ℕ, ◌+◌, ◌*◌, ◌-◌, ◌<◌, ◌≤◌}
use mathlib.Core.Bool.{Bool, true, false, cond, not, ◌||◌, ◌&&◌, true≢false, and-false}
use mathlib.Core.List.{List, [], ◌∷◌, ◌++◌}
use mathlib.Core.Path.{◌≡◌, refl, sym, ap, ◌∙◌}
use native.Mathlib.Omega.{arith}
use lib.ListN.{length, get_or, drop, length-append, get_or-append}
use lib.Seq.{drop-append-le}
use lib.Dec.{eqb, ltb}
use borrow.Author.Tests.{ne_eqb, eq-eqb, le-ltb, eqb-true, eqb-false, ltb-true, ltb-false, not-true}
use Rattle.std.specs.Prelude.{Result, Ok, Err}
use Rattle.quantity.specs.declared.Source.{Source}
use Rattle.quantity.specs.SampleFormat.{format_of}
use Rattle.big_endian.specs.BigEndian.{number_at}
use Rattle.metadata.specs.Card.{bit, stands, max_cll, mastering_peak, card_bytes, unknown_bit, cut_short, known, out_of_range, field_out_of_range}
use Rattle.metadata.specs.Card.{names_no_peak, peak, format, declared, card_answer, end_after, following, card_wants}
use Rattle.refusal.specs.declared.Refusal.{Refusal}
use Rattle.refusal.specs.declared.Refusal.TheVariants.{CardEmpty, UnknownBit, CardCut, FieldOutOfRange, NoPeak}

one_of : (a b c : Bool) → (a ≡ false → b ≡ false → c ≡ false → ⊥) → (a || b || c) ≡ true
one_of true b c h = refl
one_of false true c h = refl
one_of false false true h = refl
one_of false false false h = absurd (h refl refl refl)

-- In a byte above 31 one of bits 5 to 7 stands: if none does, each in turn halves the byte's bound.
above_thirty_one : (card : List ℕ) → get_or card 0 0 < 256 → 31 < get_or card 0 0 → unknown_bit card ≡ true
unfolding unknown_bit
above_thirty_one card byte above =
    one_of (stands 5 card) (stands 6 card) (stands 7 card)
    (λ p q r.
    let no_7 : get_or card 0 0 < 128 = omega (arith, eqb-false (bit 7 card) 1 r) in
    let no_6 : get_or card 0 0 < 64 = omega (arith, eqb-false (bit 6 card) 1 q) in
    omega (arith, eqb-false (bit 5 card) 1 p))

to_thirty_one : (card : List ℕ) → get_or card 0 0 ≤ 31 → unknown_bit card ≡ false
unfolding unknown_bit
to_thirty_one card within =
    let five = ne_eqb (bit 5 card) 1 (omega arith) in
    let six = ne_eqb (bit 6 card) 1 (omega arith) in
    simp (five, six, ne_eqb (bit 7 card) 1 (omega arith))

pub unknown_bit_lem : (card : List ℕ) → get_or card 0 0 < 256 → ltb 31 (get_or card 0 0) ≡ unknown_bit card
unknown_bit_lem card byte = go (ltb 31 (get_or card 0 0)) refl
  where
    go : (b : Bool) → ltb 31 (get_or card 0 0) ≡ b → b ≡ unknown_bit card
    go true e = sym (above_thirty_one card byte (ltb-true 31 (get_or card 0 0) e))
    go false e = sym (to_thirty_one card (ltb-false 31 (get_or card 0 0) e))

-- the largest bit map that is taken, and the three bits that are not, computed
pub bits_refused :
    (unknown_bit (31 ∷ []) ≡ false) × (unknown_bit (32 ∷ []) ≡ true) × (unknown_bit (64 ∷ []) ≡ true) × (unknown_bit (128 ∷ []) ≡ true)
unfolding unknown_bit
bits_refused = (refl, refl, refl, refl)

-- What the fields of a card answer, once all its bytes are there.
abbrev fields_answer : List ℕ → Result Source Refusal
fields_answer card = cond (field_out_of_range card) (Err FieldOutOfRange) (cond (names_no_peak card) (Err NoPeak) (Ok (declared card)))

-- What each outcome of the tests before those of the fields says of a card: its answer, how many bytes it wants, and why.
pub data Outcome (card : List ℕ) : Type 0 where
  empty : length card ≡ 0 → card_answer card ≡ Err CardEmpty → card_wants card ≡ 1 → Outcome card
  unknown : 0 < length card → unknown_bit card ≡ true → card_answer card ≡ Err UnknownBit → card_wants card ≡ 0 → Outcome card
  cut : 0 < length card → unknown_bit card ≡ false → length card < card_bytes card → card_answer card ≡ Err CardCut
      → card_wants card ≡ card_bytes card - length card → Outcome card
  complete : unknown_bit card ≡ false → card_bytes card ≤ length card → card_answer card ≡ fields_answer card → card_wants card ≡ 0 → Outcome card

pub outcome : (card : List ℕ) → Outcome card
unfolding card_answer card_wants
outcome card = go (eqb (length card) 0) (unknown_bit card) (cut_short card) refl refl refl
  where
    some_byte : eqb (length card) 0 ≡ false → 0 < length card
    some_byte p = let n = eqb-false (length card) 0 p in omega arith

    go : (a b c : Bool) → eqb (length card) 0 ≡ a → unknown_bit card ≡ b → cut_short card ≡ c → Outcome card
    go true b c p q r = empty (eqb-true (length card) 0 p) (simp p) (simp p)
    go false true c p q r = unknown (some_byte p) q (simp (p, q)) (simp (p, q))
    go false false true p q r = cut (some_byte p) q (ltb-true (length card) (card_bytes card) r) (simp (p, q, r)) (simp (p, q))
    go false false false p q r =
        let all = ltb-false (length card) (card_bytes card) r in
        complete q all (simp (p, q, r)) (simp (p, q) (omega arith))

-- An accepted card has all its bytes, names a peak, and declares what its fields say.
pub accepted : (card : List ℕ) {source : Source} → card_answer card ≡ Ok source
    → (card_bytes card ≤ length card) × (field_out_of_range card ≡ false) × (source ≡ declared card) × (names_no_peak card ≡ false)
accepted card {source} h = go (outcome card)
  where
    by_fields : card_bytes card ≤ length card → (b c : Bool) → field_out_of_range card ≡ b → names_no_peak card ≡ c → fields_answer card ≡ Ok source
        → (card_bytes card ≤ length card) × (field_out_of_range card ≡ false) × (source ≡ declared card) × (names_no_peak card ≡ false)
    by_fields l true c f n e = let g = simp f at e in let z : ◌≡◌ {A = ℕ} 0 1 = cc in absurd (omega arith)
    by_fields l false true f n e = let g = simp (f, n) at e in let z : ◌≡◌ {A = ℕ} 0 1 = cc in absurd (omega arith)
    by_fields l false false f n e = let g = simp (f, n) at e in (l, f, cc, n)

    go : Outcome card → (card_bytes card ≤ length card) × (field_out_of_range card ≡ false) × (source ≡ declared card) × (names_no_peak card ≡ false)
    go (empty l e w) = let z : ◌≡◌ {A = ℕ} 0 1 = cc in absurd (omega arith)
    go (unknown l u e w) = let z : ◌≡◌ {A = ℕ} 0 1 = cc in absurd (omega arith)
    go (cut l u s e w) = let z : ◌≡◌ {A = ℕ} 0 1 = cc in absurd (omega arith)
    go (complete u l e w) = by_fields l (field_out_of_range card) (names_no_peak card) refl refl (sym e ∙ h)

-- A card that 17 refuses has all its bytes and wants none.
pub no_peak_named : (card : List ℕ) → card_answer card ≡ Err NoPeak → (card_bytes card ≤ length card) × (card_wants card ≡ 0)
no_peak_named card h = go (outcome card)
  where
    go : Outcome card → (card_bytes card ≤ length card) × (card_wants card ≡ 0)
    go (empty l e w) = let z : ◌≡◌ {A = ℕ} 0 1 = cc in absurd (omega arith)
    go (unknown l u e w) = let z : ◌≡◌ {A = ℕ} 0 1 = cc in absurd (omega arith)
    go (cut l u s e w) = let z : ◌≡◌ {A = ℕ} 0 1 = cc in absurd (omega arith)
    go (complete u l e w) = (l, w)

-- An accepted card wants no byte.
pub wants_none : (card : List ℕ) {source : Source} → card_answer card ≡ Ok source → card_wants card ≡ 0
wants_none card {source} h = go (outcome card)
  where
    go : Outcome card → card_wants card ≡ 0
    go (empty l e w) = cc
    go (unknown l u e w) = w
    go (cut l u s e w) = cc
    go (complete u l e w) = w

pub or_false : (a b : Bool) → (a || b) ≡ false → (a ≡ false) × (b ≡ false)
or_false true b h = absurd (true≢false h)
or_false false b h = (refl, h)

-- A luminance from 1 to 10,000 cd/m2.
abbrev InRange : ℕ → Type 0
InRange v = (1 ≤ v) × (v ≤ 10000)

pub known_in_range : (standing : Bool) (v : ℕ) → (standing && out_of_range v) ≡ false → known standing v ≡ true → InRange v
unfolding out_of_range known
known_in_range true v h e =
    let low = eqb-false v 0 (not-true _ e) in
    let high = ltb-false 10000 v h in
    omega arith
known_in_range false v h e = absurd (true≢false (sym e))

chosen : {b : Bool} {x next : ℕ} → (b ≡ true → x ≤ 10000) → next ≤ 10000 → cond b x next ≤ 10000
chosen {b = true} h n = h refl
chosen {b = false} h n = n

peak_at_most : (card : List ℕ) → field_out_of_range card ≡ false → peak card ≤ 10000
unfolding peak field_out_of_range
peak_at_most card h =
    let fields = or_false (stands 0 card && out_of_range (max_cll card)) _ h in
    let mastering = chosen {next = 0} (λ e. (known_in_range (stands 1 card) (mastering_peak card) fields.1 e).1) (omega arith) in
    let unconstrained = chosen {b = stands 2 card} {x = 10000} (λ e. omega arith) mastering in
    chosen (λ e. (known_in_range (stands 0 card) (max_cll card) fields.0 e).1) unconstrained

known_some : (standing : Bool) (v : ℕ) → known standing v ≡ true → eqb v 0 ≡ false
unfolding known
known_some true v e = not-true _ e
known_some false v e = absurd (true≢false (sym e))

-- A card names no peak just where its peak is 0: what is known is above 0.
pub no_peak : (card : List ℕ) → names_no_peak card ≡ eqb (peak card) 0
unfolding names_no_peak peak
no_peak card = go (known (stands 0 card) (max_cll card)) (known (stands 1 card) (mastering_peak card)) (stands 2 card) refl refl refl
  where
    go : (a b c : Bool) → known (stands 0 card) (max_cll card) ≡ a → known (stands 1 card) (mastering_peak card) ≡ b → stands 2 card ≡ c
        → (not a && not b && not c) ≡ eqb (cond a (max_cll card) (cond c 10000 (cond b (mastering_peak card) 0))) 0
    go true b c p q r = simp (known_some (stands 0 card) (max_cll card) p)
    go false true true p q r = refl
    go false true false p q r = simp (known_some (stands 1 card) (mastering_peak card) q)
    go false false true p q r = refl
    go false false false p q r = refl

outside_known : (standing : Bool) (v : ℕ) → (standing && out_of_range v) ≡ true → known standing v ≡ true
unfolding out_of_range known
outside_known true v h = let above = ltb-true 10000 v h in simp (ne_eqb v 0 (omega arith))
outside_known false v h = h

-- No card meets both 4 and 17, since a field above 10,000 is known: which of the two is tested first, no card can tell.
pub never_both : (card : List ℕ) → field_out_of_range card ≡ true → names_no_peak card ≡ false
unfolding field_out_of_range names_no_peak
never_both card h = go (stands 0 card && out_of_range (max_cll card)) refl
  where
    go : (b : Bool) → (stands 0 card && out_of_range (max_cll card)) ≡ b
        → (not (known (stands 0 card) (max_cll card)) && not (known (stands 1 card) (mastering_peak card)) && not (stands 2 card)) ≡ false
    go true e = simp (outside_known (stands 0 card) (max_cll card) e)
    go false e = simp (outside_known (stands 1 card) (mastering_peak card) (simp e at h), and-false)

pub named_alike : (x y : List ℕ) → peak x ≡ peak y → names_no_peak x ≡ names_no_peak y
named_alike x y h = no_peak x ∙ ap (λ (p : ℕ). eqb p 0) h ∙ sym (no_peak y)

-- The peak of an accepted card lies from 1 to 10,000, so that refusal 5 never meets it.
pub peak_in_range : (card : List ℕ) {source : Source} → card_answer card ≡ Ok source → (1 ≤ source.peak) × (source.peak ≤ 10000)
peak_in_range card h =
    let a = accepted card h in
    let some = eqb-false (peak card) 0 (sym (no_peak card) ∙ a.3) in
    rw a.2 (omega arith, peak_at_most card a.1)

-- What follows a card begins after its bytes where its answer says so, as that of an accepted card does, and refusal 17.
pub after_bytes_lem : (card : List ℕ) {answer : Result Source Refusal} → card_answer card ≡ answer → end_after answer card ≡ card_bytes card
    → following card ≡ drop (card_bytes card) card
unfolding following
after_bytes_lem card h e = rw (h, e)

pub after_card : (card : List ℕ) {source : Source} → card_answer card ≡ Ok source → following card ≡ drop (card_bytes card) card
after_card card h = after_bytes_lem card h refl

-- A card takes its bit map and at most two fields.
at_least_one : (card : List ℕ) → 1 ≤ card_bytes card
unfolding card_bytes
at_least_one card = omega arith

pub at_most_five : (card : List ℕ) → card_bytes card ≤ 5
unfolding card_bytes
at_most_five card = omega arith

-- No card wants more than five bytes in all.
pub wants_within : (card : List ℕ) → card_wants card ≤ 5 - length card
wants_within card = go (outcome card)
  where
    go : Outcome card → card_wants card ≤ 5 - length card
    go (empty l e w) = omega arith
    go (unknown l u e w) = omega arith
    go (cut l u s e w) = omega (arith, at_most_five card)
    go (complete u l e w) = omega arith

-- What a field leaves of the next choice: its own value where it is known.
abbrev pub choice : Bool → ℕ → ℕ → ℕ
choice standing value next = cond (known standing value) value next

-- The peak goes by bit 2 and by what each of the two fields leaves of a choice, in whatever order these are asked.
pub same_choices : (x y : List ℕ) → stands 2 x ≡ stands 2 y
    → ((next : ℕ) → choice (stands 0 x) (max_cll x) next ≡ choice (stands 0 y) (max_cll y) next)
    → ((next : ℕ) → choice (stands 1 x) (mastering_peak x) next ≡ choice (stands 1 y) (mastering_peak y) next) → peak x ≡ peak y
unfolding peak
same_choices x y unconstrained first second = rw (unconstrained, first _, second _)

-- What reads a field only where its bit stands.
where_standing : {A : Type 0} (f : Bool → ℕ → A) (standing : Bool) {x y : ℕ} → (standing ≡ true → x ≡ y) → f false x ≡ f false y
    → f standing x ≡ f standing y
where_standing f true h e = ap (f true) (h refl)
where_standing f false h e = e

-- Bytes that come after those of a card.
module _ (card more : List ℕ) where
  longer : length (card ++ more) ≡ length card + length more
  longer = simp length-append

  pub same_map : 0 < length card → get_or (card ++ more) 0 0 ≡ get_or card 0 0
  same_map h = get_or-append card more 0 0 h

  same_bytes : 0 < length card → card_bytes (card ++ more) ≡ card_bytes card
  unfolding card_bytes
  same_bytes h = rw (same_map h)

  same_unknown : 0 < length card → unknown_bit (card ++ more) ≡ unknown_bit card
  unfolding unknown_bit
  same_unknown h = rw (same_map h)

  same_format : 0 < length card → format (card ++ more) ≡ format card
  unfolding format
  same_format h = ap format_of (same_map h)

  -- A number whose bytes are there stays.
  pub same_number : (i : ℕ) → i + 2 ≤ length card → number_at (card ++ more) i ≡ number_at card i
  unfolding number_at
  same_number i h = rw (get_or-append card more 0 i (omega arith), get_or-append card more 0 (i + 1) (omega arith))

  module _ (whole : card_bytes card ≤ length card) where
    some_byte : 0 < length card
    unfolding card_bytes
    some_byte = omega arith

    same_max_cll : stands 0 card ≡ true → max_cll (card ++ more) ≡ max_cll card
    unfolding card_bytes
    same_max_cll e = let b = eqb-true (bit 0 card) 1 e in same_number 1 (omega arith)

    same_mastering_peak : stands 1 card ≡ true → mastering_peak (card ++ more) ≡ mastering_peak card
    unfolding card_bytes
    same_mastering_peak e =
        let b = eqb-true (bit 1 card) 1 e in
        rw (same_map some_byte) (same_number (1 + 2 * bit 0 card) (omega arith))

    same_fields : field_out_of_range (card ++ more) ≡ field_out_of_range card
    unfolding field_out_of_range
    same_fields =
        let refused : Bool → ℕ → Bool = λ standing value. standing && out_of_range value in
        let first = where_standing refused (stands 0 card) same_max_cll refl in
        let second = where_standing refused (stands 1 card) same_mastering_peak refl in
        rw (← first, ← second) (rw (same_map some_byte))

    same_bit : (i : ℕ) → stands i (card ++ more) ≡ stands i card
    same_bit i = rw (same_map some_byte)

    same_peak : peak (card ++ more) ≡ peak card
    unfolding known
    same_peak =
        same_choices (card ++ more) card (same_bit 2)
        (λ next. rw (same_bit 0) (where_standing (λ standing value. choice standing value next) (stands 0 card) same_max_cll refl))
        (λ next. rw (same_bit 1) (where_standing (λ standing value. choice standing value next) (stands 1 card) same_mastering_peak refl))

  -- A card that wants no byte answers the same whatever comes after it.
  pub settled : card_wants card ≡ 0 → card_answer (card ++ more) ≡ card_answer card
  unfolding card_answer
  settled h = go (outcome card)
    where
      some : 0 < length card → eqb (length (card ++ more)) 0 ≡ false
      some l = ne_eqb (length (card ++ more)) 0 (omega (arith, longer))

      uncut : card_bytes card ≤ length card → cut_short (card ++ more) ≡ false
      uncut l =
          le-ltb (length (card ++ more)) (card_bytes (card ++ more)) (omega (arith, longer, same_bytes (some_byte l)))

      go : Outcome card → card_answer (card ++ more) ≡ card_answer card
      go (empty l e w) = absurd (omega arith)
      go (unknown l u e w) = rw e (simp (some l, same_unknown l ∙ u))
      go (cut l u s e w) = absurd (omega arith)
      go (complete u l e w) =
          let first = some_byte l in
          let named = named_alike (card ++ more) card (same_peak l) in
          rw e (simp (some first, same_unknown first ∙ u, uncut l, same_fields l, named, same_peak l, same_format first))

  -- What comes after such a card's bytes follows the card.
  follows_by : {answer : Result Source Refusal} → card_answer card ≡ answer → ((x : List ℕ) → end_after answer x ≡ card_bytes x) → card_wants card ≡ 0
      → card_bytes card ≤ length card → following (card ++ more) ≡ following card ++ more
  follows_by h e wanted whole =
      let joined = after_bytes_lem (card ++ more) (settled wanted ∙ h) (e (card ++ more)) in
      let bytes = ap (λ (n : ℕ). drop n (card ++ more)) (same_bytes (some_byte whole)) in
      joined ∙ bytes ∙ drop-append-le (card_bytes card) card more whole ∙ rw (after_bytes_lem card h (e card))

  pub follows : {source : Source} → card_answer card ≡ Ok source → following (card ++ more) ≡ following card ++ more
  follows h = follows_by h (λ x. refl) (wants_none card h) (accepted card h).0

  pub follows_unnamed : card_answer card ≡ Err NoPeak → following (card ++ more) ≡ following card ++ more
  follows_unnamed h = let n = no_peak_named card h in follows_by h (λ x. refl) n.1 n.0

  -- Fewer bytes than a card wants leave it wanting the others.
  pub wants_on : length more < card_wants card → card_wants (card ++ more) ≡ card_wants card - length more
  unfolding card_wants
  wants_on h = go (outcome card)
    where
      go : Outcome card → card_wants (card ++ more) ≡ card_wants card - length more
      go (empty l e w) = simp (eq-eqb (length (card ++ more)) 0 (omega (arith, longer))) (omega arith)
      go (unknown l u e w) = absurd (omega arith)
      go (cut l u s e w) =
          simp (ne_eqb (length (card ++ more)) 0 (omega (arith, longer)), same_unknown l ∙ u) (omega (arith, longer, same_bytes l))
      go (complete u l e w) = absurd (omega arith)

  -- No more bytes than a card wants leave none over.
  pub none_over : 0 < card_wants card → length more ≤ card_wants card → length (card ++ more) ≤ card_bytes (card ++ more)
  none_over some_wanted h = go (outcome card)
    where
      go : Outcome card → length (card ++ more) ≤ card_bytes (card ++ more)
      go (empty l e w) = omega (arith, longer, at_least_one (card ++ more))
      go (unknown l u e w) = absurd (omega arith)
      go (cut l u s e w) = omega (arith, longer, same_bytes l)
      go (complete u l e w) = absurd (omega arith)
