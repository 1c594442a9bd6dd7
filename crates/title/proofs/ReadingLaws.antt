-- The reading of a title over lists, as `streams` has it. A read of n bytes gives the next n, or as many as there are; each call of a function on
-- slices stands as the definition that its contract promises.
use Prim.Native.Nat.{ℕ, zero, suc, ◌+◌, ◌≤◌, ◌<◌}
use mathlib.Core.Bool.{Bool, true, false, cond}
use mathlib.Core.List.{List, [], ◌++◌, append_assoc}
use mathlib.Core.Path.{◌≡◌, refl, sym, ap, subst, ◌∙◌}
use native.Mathlib.Omega.{arith}
use lib.Dec.{eqb, ltb}
use lib.ListN.{length, take, drop, length-append, length-take, length-drop, take-append-drop, drop_of_length-le}
use lib.Seq.{take_all}
use borrow.Author.Tests.{eqb-true, eqb-false, ltb-true, ltb-false}
use Rattle.title.specs.declared.opening.Layout.{Layout}
use Rattle.metadata.proofs.CardLaws.{after_card}
use Rattle.std.specs.Prelude.{Ok}
use Rattle.title.specs.Opening.{opening_answer, rows_of, bytes_asked}
use Rattle.title.proofs.OpeningLaws.{asked_within, has_rows, Tight, opening_settled, tight_on, rows_after, no_rows}

-- the bytes read so far and those that are not
pub record Input : Type 0 where
  pub held : List ℕ
  pub rest : List ℕ

-- `read_opening_bytes`, of so many turns
unfoldable pub read_opening : ℕ → List ℕ → List ℕ → Input
read_opening zero held rest = record { held = held; rest = rest }
read_opening (suc turns) held rest =
    let asked = bytes_asked held in
    let came = take asked rest in
    cond (eqb asked 0) (record { held = held; rest = rest })
    (cond (ltb (length came) asked) (record { held = held ++ came; rest = drop asked rest })
    (read_opening turns (held ++ came) (drop asked rest)))

-- what the bytes read of a title's opening are: its first ones, which answer what the title does and are followed by its rows
pub record Opened (title : List ℕ) (read : Input) : Type 0 where
  pub whole : read.held ++ read.rest ≡ title
  pub answer : opening_answer read.held ≡ opening_answer title
  pub rows : (layout : Layout) → opening_answer title ≡ Ok layout → rows_of title ≡ read.rest

settled_at : (held rest : List ℕ) → Tight held → bytes_asked held ≡ 0 → Opened (held ++ rest) (record { held = held; rest = rest })
settled_at held rest tight z =
    let same = opening_settled held rest z in
    record { whole = refl; answer = sym same; rows = λ layout h. rows_after held rest tight z (has_rows held (sym same ∙ h)).0 }

ended_at : (held rest : List ℕ) → Tight held → length (take (bytes_asked held) rest) < bytes_asked held
    → Opened (held ++ rest) (record { held = held ++ take (bytes_asked held) rest; rest = drop (bytes_asked held) rest })
ended_at held rest tight h =
    let short : length rest ≤ bytes_asked held = omega (arith, length-take (bytes_asked held) rest) in
    let all = take_all (bytes_asked held) rest short in
    let none = drop_of_length-le rest {i = bytes_asked held} short in
    let tight' = tight_on held rest tight short in
    record {
      whole = rw append_assoc (ap (λ (l : List ℕ). held ++ l) (take-append-drop (bytes_asked held) rest));
      answer = rw all;
      rows = λ layout e. no_rows (held ++ rest) tight' (has_rows (held ++ rest) e).0 ∙ sym none;
    }

opened_in : (turns : ℕ) (held rest : List ℕ) → 7 ≤ length held + turns → length held ≤ 7 → Tight held → Opened (held ++ rest) (read_opening turns held rest)
unfolding read_opening
opened_in zero held rest t l tight = settled_at held rest tight (omega (arith, asked_within held l))
opened_in (suc turns) held rest t l tight = go (eqb asked 0) (ltb (length came) asked) refl refl (opened_in turns (held ++ came) later)
  where
    asked : ℕ
    asked = bytes_asked held

    came : List ℕ
    came = take asked rest

    later : List ℕ
    later = drop asked rest

    go : (a b : Bool) → eqb asked 0 ≡ a → ltb (length came) asked ≡ b
        → (7 ≤ length (held ++ came) + turns → length (held ++ came) ≤ 7 → Tight (held ++ came)
        → Opened ((held ++ came) ++ later) (read_opening turns (held ++ came) later))
        → Opened (held ++ rest)
        (cond a (record { held = held; rest = rest }) (cond b (record { held = held ++ came; rest = later }) (read_opening turns (held ++ came) later)))
    go true b p q again = settled_at held rest tight (eqb-true asked 0 p)
    go false true p q again = ended_at held rest tight (ltb-true (length came) asked q)
    go false false p q again =
        let some = eqb-false asked 0 p in
        let full = ltb-false (length came) asked q in
        let most : length came ≤ asked = omega (arith, length-take asked rest) in
        let longer = length-append held came in
        let split = append_assoc held came later ∙ ap (λ (l : List ℕ). held ++ l) (take-append-drop asked rest) in
        subst (λ (t : List ℕ). Opened t (read_opening turns (held ++ came) later)) split
        (again (omega arith) (omega (arith, asked_within held l)) (tight_on held came tight most))

tight_empty : Tight []
tight_empty source d = rw (after_card [] d) (simp length-drop (omega arith))

-- Reading what `bytes_asked` asks for, from no byte on, ends with the title's opening. That no byte beyond it is asked for is `asks_on`.
pub opening_read : (title : List ℕ) → Opened title (read_opening 7 [] title)
opening_read title = opened_in 7 [] title (omega arith) (omega arith) tight_empty
