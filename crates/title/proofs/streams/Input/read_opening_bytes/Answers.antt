-- An opening asks for no more than seven bytes, and no more come than it asks for. The measure is what is left of the seven.
use Rattle.std.proofs.Common.{rules, ◌≡◌, ℕ, ◌+◌, ◌-◌, ◌≤◌, List, arith, length, take, drop, length-take, length-drop, ◌∙◌, subst}
use Rattle.std.specs.Io.KnownBytes.{Consumes}
use Rattle.std.proofs.KnownBytes.{Consumes-trans}
use borrow.Rule.Slice.PartMut.{same_len_mid}
use Rattle.title.specs.Opening.{bytes_asked}
use Rattle.title.proofs.OpeningLaws.{asked_within}
use Rattle.title.proofs.PartLaws.{part_written}
use Rattle.title.proofs.streams.Input.read_opening_bytes.Goals as goal

-- what is asked for has room
room : (got asked : ℕ) (opening : List ℕ) → got ≤ 7 → length opening ≡ 7 → asked ≡ bytes_asked (take got opening) → got + asked ≤ 7
room got asked opening h l e =
    let held : length (take got opening) ≡ got = simp length-take (omega arith) in
    omega (arith, asked_within (take got opening) (omega arith), e)

-- what came lies within the part that was lent for it
part_length : (got asked : ℕ) (opening part : List ℕ) → got + asked ≤ length opening
    → length part ≡ length (take (got + asked - got) (drop got opening)) → length part ≡ asked
part_length got asked opening part h e = omega (arith, e, length-take (got + asked - got) (drop got opening), length-drop got opening)

pub overflow_add-end : goal.overflow_add-end
overflow_add-end g c =
    let w = room c.loop-got.got c.bytes_asked-asked.result c.loop-got.opening (omega arith) (omega arith) c.bytes_asked-asked.ensures in
    search rules

pub slice_bounds-read-end : goal.slice_bounds-read-end
slice_bounds-read-end g c =
    let w = room c.loop-got.got c.bytes_asked-asked.result c.loop-got.opening (omega arith) (omega arith) c.bytes_asked-asked.ensures in
    search rules

pub returns-then-came-asked-clause-bytes : goal.returns-then-came-asked-clause-bytes
returns-then-came-asked-clause-bytes g c =
    let got = c.loop-got.got in
    let asked = c.bytes_asked-asked.result in
    let came = c.read-came.result in
    let old = c.loop-got.opening in
    let part = c.read-came.new.buffer in
    let w = room got asked old (omega arith) (omega arith) c.bytes_asked-asked.ensures in
    let l = part_length got asked old part (omega arith) c.read-came.auto.buffer in
    let fits : came ≤ length part = omega (arith, l) in
    subst (Consumes _ _) (part_written got (got + asked - got) came old part (omega arith) fits)
    (Consumes-trans _ _ _ _ _ c.loop-got.invariant.bytes c.read-came.ensures.bytes)

pub loop-got-preserved : goal.loop-got-preserved
loop-got-preserved g c =
    let got = c.loop-got.got in
    let asked = c.bytes_asked-asked.result in
    let came = c.read-came.result in
    let old = c.loop-got.opening in
    let part = c.read-came.new.buffer in
    let w = room got asked old (omega arith) (omega arith) c.bytes_asked-asked.ensures in
    let l = part_length got asked old part (omega arith) c.read-came.auto.buffer in
    let within = c.read-came.ensures.within in
    let most : came ≤ asked = omega (arith, c.read-came.auto.buffer, l) in
    let fits : came ≤ length part = omega (arith, l) in
    record {
      within = omega arith;
      room = same_len_mid got (got + asked - got) old part c.read-came.auto.buffer ∙ c.loop-got.invariant.room;
      bytes =
          subst (Consumes _ _) (part_written got (got + asked - got) came old part (omega arith) fits)
          (Consumes-trans _ _ _ _ _ c.loop-got.invariant.bytes c.read-came.ensures.bytes);
      same = c.read-came.ensures.same_stream ∙ c.loop-got.invariant.same;
      errors = c.read-came.ensures.same_errors ∙ c.loop-got.invariant.errors;
      program = c.read-came.ensures.same_program ∙ c.loop-got.invariant.program;
    }
