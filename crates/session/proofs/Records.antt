-- What the bytes of a header, a check and the settings lead to, each judged by the contract of its function. Assumes nothing.
use Rattle.integers.proofs.Prelude.{◌≡◌, refl, sym, ap, subst, ◌∙◌, List, ◌++◌, append_assoc, ℕ, zero, suc, ◌+◌, ◌-◌, ◌*◌, ◌≤◌, ◌<◌}
use Rattle.integers.proofs.Prelude.{arith, length, take, drop, length-append, length-take, length-drop}
use Rattle.integers.proofs.Prelude.{take-append-drop, length-take-le, take-take, take-add, drop_at, drop-drop, take-append_seam}
use lib.Seq.{take-append-add}
use Rattle.model.specs.Code.{triple_count}
use Rattle.model.specs.Records.{bit_count, check_count, degree, indices, judge}
use Rattle.program.specs.Frames.{judge_held_header, judge_held_check, judge_settings, frame_size, refusal, frames}
use Rattle.program.specs.FrameClaims.{Begun, Opened}
use Rattle.model.proofs.Accepted.{header_sound, record_sound}
use Rattle.program.proofs.Frames.{header_held, check_held, settings_sound}
use Rattle.program.proofs.FrameBytes.{two_take, drop_take, drop_within, degree_take, held_take, three_judged, opened_degree}
use Rattle.program.proofs.FrameCode.{held_next}
use Rattle.program.proofs.FrameProgram as Program
use Rattle.session.specs.declared.State.{State}
use Rattle.session.specs.declared.Step.{Step}
use Rattle.session.specs.declared.Part.TheVariants.{Header, Check, Indices, Settings, Frame}
use Rattle.session.specs.Session.{is_over, AtIndices, Due, Asked, Told, Entered, Refused}
use Rattle.session.proofs.Steps.{refused, kept_too, entered, entry_refused}

-- the test for a mark and a degree that are sound
-- a code that is kept has its header at least, and fits
module _ (left t : ℕ) (b : List ℕ) (g : Begun left t b) where
  pub begun_room : (6 ≤ length b) × (length b ≤ 9222)
  begun_room = ((header_sound b (header_held b g.header).sound).room, omega (arith, g.few, g.size))

  check_refused : (s : List ℕ) (c : ℕ) → 0 < left → (c ≡ 0 → ⊥) → c ≡ judge_held_check (bit_count b) t s → frames (b ++ s) ≡ refusal c
  check_refused s c l h e = by left l g
    where
      by : (k : ℕ) → 0 < k → Begun k t b → frames (b ++ s) ≡ refusal c
      by zero l g = absurd (omega arith)
      by (suc k) l g = Program.check_refused k t b s g c h e

-- ---- a check is kept
module _ (buffer : List ℕ) (long : length buffer ≡ 10260) (at left t : ℕ) (g : Begun left t (take at buffer)) (fits : at ≤ 10260) where
  kept_long : length (take at buffer) ≡ at
  kept_long = length-take-le at buffer (omega arith)

  kept_most : at ≤ 9222
  kept_most = omega (arith, kept_long, (begun_room left t (take at buffer) g).1)

  pub next_check : 0 < left → (out : List ℕ) → Entered buffer at (record { state = record { part = Check; at = at; want = 3; left = left; triples = t }; written = 0 }) out
  next_check h out = entered buffer at _ out refl refl (record { long = kept_long; fits = omega (arith, kept_most); due = (g, h, refl) })

  module _ (none : left ≤ 0) where
    whole : Begun 0 t (take at buffer)
    whole = let z : left ≡ 0 = omega arith in rw z at g

    pub code_refused : {c : ℕ} {r : Step} {out : List ℕ} → c ≡ judge (take at buffer) → (c ≡ 0 → ⊥) → Refused c r out → Entered buffer at r out
    code_refused {c} e h f = entry_refused buffer at f (λ s. Program.code_refused t (take at buffer) whole s c h e)

    pub code_kept : judge (take at buffer) ≡ 0 → (out : List ℕ) → Entered buffer at (record { state = record { part = Settings; at = at; want = 12; left = left; triples = t }; written = 0 }) out
    code_kept h out = entered buffer at _ out refl refl (record { long = kept_long; fits = omega (arith, kept_most); due = (record { begun = whole; sound = h }, refl) })

module _ (buffer : List ℕ) (long : length buffer ≡ 10260) (st : State) (came : ℕ) (a : Asked st came buffer) where
  -- the bytes that are kept, and those that came
  abbrev b : List ℕ
  b = take st.at buffer

  abbrev bytes : List ℕ
  bytes = take came (drop st.at buffer)

  pub counted : length bytes ≡ came
  counted = length-take-le came (drop st.at buffer) (omega (arith, a.most, a.kept.fits, length-drop st.at buffer))

  -- once k bytes came and are kept: those kept before, and those k
  behind : (k : ℕ) → came ≡ k → let next = st.at + came in (take (next - k) (take next buffer) ≡ b) × (drop (next - k) (take next buffer) ≡ bytes)
  behind k e =
      let next = st.at + came in
      let same : next - k ≡ st.at = omega arith in
      (take-take (next - k) next buffer (omega arith) ∙ ap (λ (j : ℕ). take j buffer) same, ap (λ (j : ℕ). drop j (take next buffer)) same ∙ drop_take st.at came buffer)

  -- ---- the header
  module _ (p : st.part ≡ Header) where
    abbrev due : Due Header st b
    due = subst (λ q. Due q st b) p a.kept.due

    first : st.at ≡ 0
    first = sym a.kept.long ∙ ap length due.0

    all_came : bytes ≡ take came buffer
    all_came = rw first

    pub header_refused : {c : ℕ} {r : Step} {out : List ℕ} → c ≡ judge_held_header (take came buffer) → (c ≡ 0 → ⊥) → Refused c r out → Told buffer st came r out
    header_refused {c} e h f =
        refused buffer st came (ap is_over p) f
        (λ s t. rw due.0 (Program.header_refused s c h (e ∙ ap judge_held_header (sym all_came ∙ t ∙ ap (λ (w : ℕ). take w s) due.1))))

    pub header_kept : (m : ℕ) (out : List ℕ) → judge_held_header (take came buffer) ≡ 0 → m ≡ check_count buffer
        → Told buffer st came (record { state = record { part = Check; at = 6; want = 3; left = m; triples = 0 }; written = 0 }) out
    header_kept m out e told =
        let h : judge_held_header bytes ≡ 0 = ap judge_held_header all_came ∙ e in
        let sound = header_sound bytes (header_held bytes h).sound in
        let six : came ≡ 6 = omega (arith, a.most, due.1, sound.room, counted) in
        let kept : bytes ≡ take 6 buffer = all_came ∙ ap (λ (k : ℕ). take k buffer) six in
        let l : length (take 6 buffer) ≡ 6 = length-take-le 6 buffer (omega arith) in
        let count : check_count (take 6 buffer) ≡ m = two_take 4 6 buffer (omega arith) ∙ sym told in
        let z : judge_held_header (take 6 buffer) ≡ 0 = rw (← kept) h in
        let begun : Begun m 0 (take 6 buffer) = record {
          header = z;
          checks = λ s. rw (drop_at (take 6 buffer) s 6 l, count);
          after = λ s. rw (drop_at (take 6 buffer) s 6 l, count);
          few = omega arith;
          size = omega arith;
        } in
        let some : 0 < m = omega (arith, count, (header_sound (take 6 buffer) (header_held (take 6 buffer) z).sound).checks_least) in
        kept_too buffer st came (ap is_over p) (six ∙ sym due.1)
        (entered buffer (st.at + came) _ out refl (omega (arith, first, six)) (record { long = l; fits = omega arith; due = (begun, some, refl) }))

  -- ---- the mark and the degree of a check
  module _ (p : st.part ≡ Check) where
    abbrev due_check : Due Check st b
    due_check = subst (λ q. Due q st b) p a.kept.due

    abbrev begun : Begun st.left st.triples b
    begun = due_check.0

    room : (6 ≤ st.at) × (st.at ≤ 9222)
    room = let x = begun_room _ _ b begun in let k = a.kept.long in (omega (arith, x.0), omega (arith, x.1))

    bits_there : bit_count b ≡ bit_count buffer
    bits_there = two_take 2 st.at buffer (omega (arith, room.0))

    pub check_few : st.triples ≤ 1024
    check_few = begun.few

    -- a mark and a degree are no whole check
    pub opening_some : {c : ℕ} → c ≡ judge_held_check (bit_count buffer) st.triples bytes → c ≡ 0 → ⊥
    opening_some e z =
        let three : st.want ≡ 3 = due_check.2 in
        let x = record_sound _ bytes (check_held (bit_count b) st.triples bytes (sym (e ∙ rw bits_there) ∙ z)).sound in
        omega (arith, x.room, x.least, counted, a.most, three)

    pub opening_refused : {c : ℕ} {r : Step} {out : List ℕ} → c ≡ judge_held_check (bit_count buffer) st.triples bytes → (c ≡ 1 → came < 3) → Refused c r out → Told buffer st came r out
    opening_refused {c} e h f =
        let three : st.want ≡ 3 = due_check.2 in
        let judged : c ≡ judge_held_check (bit_count b) st.triples bytes = e ∙ rw bits_there in
        let some : c ≡ 0 → ⊥ = opening_some e in
        refused buffer st came (ap is_over p) f
        (λ s t.
        let first : bytes ≡ take 3 s = t ∙ ap (λ (w : ℕ). take w s) three in
        check_refused st.left st.triples b begun s c due_check.1 some
        (judged ∙ ap (judge_held_check (bit_count b) st.triples) first
        ∙ three_judged (bit_count b) st.triples s (λ z. omega (arith, ap length first, counted, h (judged ∙ ap (judge_held_check (bit_count b) st.triples) first ∙ z)))))

    pub opening_kept : (d : ℕ) (out : List ℕ) → judge_held_check (bit_count buffer) st.triples bytes ≡ 1 → 3 ≤ came → d ≡ degree (drop st.at buffer)
        → Told buffer st came (record { state = record { part = Indices; at = st.at + came; want = 2 * d; left = st.left; triples = st.triples }; written = 0 }) out
    opening_kept d out e h g =
        let three : came ≡ 3 = omega (arith, a.most, due_check.2) in
        let next = st.at + came in
        let l : length (take next buffer) ≡ next = length-take-le next buffer (omega (arith, room.1)) in
        let x = behind 3 three in
        let told : d ≡ degree bytes = g ∙ sym (degree_take came (drop st.at buffer) h) in
        let bits : bit_count (take next buffer) ≡ bit_count buffer = two_take 2 next buffer (omega (arith, room.0)) in
        let opened : Opened (bit_count buffer) st.triples bytes = record { three = counted ∙ three; cut = e } in
        kept_too buffer st came (ap is_over p) (three ∙ sym due_check.2)
        (entered buffer next _ out refl refl (record {
          long = l;
          fits = omega (arith, room.1, told, (opened_degree _ _ bytes opened).1);
          due = record { begun = rw x.0 begun; more = due_check.1; opened = rw (bits, x.1) opened; want = rw (x.1, told) };
        }))

  -- ---- the indices of a check
  module _ (p : st.part ≡ Indices) where
    abbrev from : ℕ
    from = st.at - 3

    abbrev due_indices : AtIndices st b
    due_indices = subst (λ q. Due q st b) p a.kept.due

    abbrev head : List ℕ
    head = take from b

    abbrev three : List ℕ
    three = drop from b

    abbrev t : ℕ
    t = st.triples

    sizes : (9 ≤ st.at) × (st.at ≤ 9225)
    sizes =
        let x = begun_room _ _ head due_indices.begun in
        let l = length-take from b in
        let m = length-drop from b in
        let k = a.kept.long in
        (omega (arith, x.0, due_indices.opened.three), omega (arith, x.1, due_indices.opened.three))

    head_is : head ≡ take from buffer
    head_is = take-take from st.at buffer (omega arith)

    bits_in : bit_count head ≡ bit_count buffer
    bits_in = rw head_is (two_take 2 from buffer (omega (arith, sizes.0)))

    -- the record: the bytes kept of it, and those that came
    pub check_is : take (st.at + came - from) (drop from buffer) ≡ three ++ bytes
    check_is =
        let e : st.at + came - from ≡ 3 + came = omega (arith, sizes.0) in
        let f : st.at - from ≡ 3 = omega (arith, sizes.0) in
        let g : from + 3 ≡ st.at = omega (arith, sizes.0) in
        let first : three ≡ take 3 (drop from buffer) = drop_within from st.at buffer (omega arith) ∙ ap (λ (k : ℕ). take k (drop from buffer)) f in
        rw (e, take-add 3 came (drop from buffer), drop-drop 3 from buffer, g, ← first)

    degree_is : degree (three ++ bytes) ≡ degree three
    degree_is = sym (degree_take 3 (three ++ bytes) (omega arith)) ∙ ap degree (ap (λ (k : ℕ). take k (three ++ bytes)) (sym due_indices.opened.three) ∙ take-append_seam three bytes)

    pub indices_few : t ≤ 1024
    indices_few = due_indices.begun.few

    pub indices_left : 0 < st.left
    indices_left = due_indices.more

    pub indices_room : (3 ≤ st.at) × (st.at + came ≤ 10260)
    indices_room = (omega (arith, sizes.0), omega (arith, a.most, a.kept.fits))

    pub indices_refused : {c : ℕ} {r : Step} {out : List ℕ} → c ≡ judge_held_check (bit_count buffer) t (take (st.at + came - from) (drop from buffer)) → (c ≡ 0 → ⊥)
        → Refused c r out → Told buffer st came r out
    indices_refused {c} e h f =
        refused buffer st came (ap is_over p) f
        (λ s w.
        let size = st.want in
        let whole : take (3 + size) (three ++ s) ≡ three ++ bytes = ap (λ (k : ℕ). take (k + size) (three ++ s)) (sym due_indices.opened.three) ∙ take-append-add three s size ∙ rw w in
        let d : degree (three ++ s) ≡ degree three = sym (degree_take (3 + size) (three ++ s) (omega arith)) ∙ rw whole degree_is in
        let judged : c ≡ judge_held_check (bit_count head) t (three ++ s) =
        e ∙ rw (check_is, bits_in, ← whole) (held_take (bit_count buffer) t (3 + size) (three ++ s) (omega (arith, d, due_indices.want))) in
        let split : b ++ s ≡ head ++ (three ++ s) = ap (λ (l : List ℕ). l ++ s) (sym (take-append-drop from b)) ∙ append_assoc head three s in
        ap frames split ∙ check_refused st.left t head due_indices.begun (three ++ s) c due_indices.more h judged)

    module _ (e : judge_held_check (bit_count buffer) t (take (st.at + came - from) (drop from buffer)) ≡ 0) where
      held : judge_held_check (bit_count head) t (three ++ bytes) ≡ 0
      held = rw (bits_in, ← check_is) e

      long_check : length (three ++ bytes) ≡ 3 + came
      long_check = length-append three bytes ∙ omega (arith, counted, due_indices.opened.three)

      pub indices_all : came ≡ st.want
      indices_all = omega (arith, a.most, due_indices.want, degree_is, long_check, (record_sound _ _ (check_held _ t (three ++ bytes) held).sound).room)

      pub check_whole : 3 ≤ length (take (st.at + came - from) (drop from buffer))
      check_whole = rw check_is (omega (arith, long_check))

      pub next_begun : Begun (st.left - 1) (t + triple_count (indices (take (st.at + came - from) (drop from buffer)))) (take (st.at + came) buffer)
      next_begun =
          let l : suc (st.left - 1) ≡ st.left = omega (arith, due_indices.more) in
          let g : Begun (suc (st.left - 1)) t head = rw l due_indices.begun in
          let all : take (st.at + came) buffer ≡ head ++ (three ++ bytes) =
          take-add st.at came buffer ∙ ap (λ (l : List ℕ). l ++ bytes) (sym (take-append-drop from b)) ∙ append_assoc head three bytes in
          rw (all, check_is) (held_next (st.left - 1) t head (three ++ bytes) g held (omega (arith, long_check, indices_all, due_indices.want, degree_is)))

      pub indices_kept : {r : Step} {out : List ℕ} → Entered buffer (st.at + came) r out → Told buffer st came r out
      indices_kept f = kept_too buffer st came (ap is_over p) indices_all f

  -- ---- the settings
  module _ (p : st.part ≡ Settings) where
    abbrev due_settings : Due Settings st b
    due_settings = subst (λ q. Due q st b) p a.kept.due

    code_room : (6 ≤ st.at) × (st.at ≤ 9222)
    code_room = let x = begun_room _ _ b due_settings.0.begun in let k = a.kept.long in (omega (arith, x.0), omega (arith, x.1))

    pub settings_refused : {c : ℕ} {r : Step} {out : List ℕ} → c ≡ judge_settings bytes → (c ≡ 0 → ⊥) → Refused c r out → Told buffer st came r out
    settings_refused {c} e h f =
        refused buffer st came (ap is_over p) f
        (λ s w. Program.settings_refused st.triples b s due_settings.0 c h (e ∙ ap judge_settings (w ∙ ap (λ (k : ℕ). take k s) due_settings.1)))

    pub settings_kept : (n : ℕ) (out : List ℕ) → judge_settings bytes ≡ 0 → n ≡ bit_count buffer
        → Told buffer st came (record { state = record { part = Frame; at = st.at + came; want = frame_size n; left = st.left; triples = st.triples }; written = 0 }) out
    settings_kept n out e told =
        let twelve : came ≡ 12 = omega (arith, a.most, due_settings.1, counted, (settings_sound bytes e).room) in
        let next = st.at + came in
        let l : length (take next buffer) ≡ next = length-take-le next buffer (omega (arith, code_room.1)) in
        let x = behind 12 twelve in
        let bits : bit_count (take next buffer) ≡ n = two_take 2 next buffer (omega (arith, code_room.0)) ∙ sym told in
        let few : bit_count b ≤ 512 = (header_held b due_settings.0.begun.header).room in
        let own : bit_count b ≡ n = two_take 2 st.at buffer (omega (arith, code_room.0)) ∙ sym told in
        kept_too buffer st came (ap is_over p) (twelve ∙ sym due_settings.1)
        (entered buffer next _ out refl refl (record {
          long = l;
          fits = omega (arith, code_room.1);
          due = record { code = rw x.0 due_settings.0; set = rw x.1 (record { twelve = counted ∙ twelve; sound = e }); want = rw bits };
        }))
