-- What the functions of the encoder promise follows from the equations with their definitions. Assumes nothing.
use Rattle.integers.proofs.Prelude.{◌≡◌, refl, sym, ap, ap₂, subst, ◌∙◌, Bool, true, false, List, [], ◌∷◌, ◌++◌, ℕ, zero, suc, ◌+◌, ◌*◌, ◌≤◌, ◌<◌}
use Rattle.integers.proofs.Prelude.{arith, dec_lt, le-ltb, ltb-false, ltb, length, take, drop, get_or-take, get_or-drop}
use Rattle.integers.proofs.Prelude.{take_all, get_or-eq_default}
use native.Mathlib.Nat.{zero-mul, mul-le-mul_right}
use mathlib.Core.Logic.{◌↔◌}
use Rattle.lists.specs.Tabulated.{written, part}
use Rattle.lists.specs.Entries.{some}
use Rattle.lists.proofs.Tabulated.{take_written}
use Rattle.lists.proofs.Parts.{length_part}
use Rattle.model.specs.Limits.{most_encoded_bits}
use Rattle.model.specs.Causes.{◌if◌, first_of, short, accepted}
use Rattle.model.specs.Code.{Code}
use Rattle.model.specs.Records.{code_of, judge}
use Rattle.model.specs.Words.{bit_at, first_odd}
use Rattle.model.specs.Points.{Bits, Codeword}
use Rattle.model.specs.Reflection.{reflect, sum_of_words}
use Rattle.model.specs.Calls.{unequal, not_binary, Costs}
use Rattle.model.specs.Order.{odd_causes, one_to_nine}
use Rattle.model.specs.Told.{Refuses}
use Rattle.model.specs.Encoding.{Length, reduced, message_length, encoded, message_of, frames_in, encoded_frames, size_causes, message_size, Encoding, message_causes}
use Rattle.model.specs.Encoding.{encoder_causes, encoder, frames_causes, frames_encoder, MessageRead, message_reader_causes, message_reader, Encodes}
use Rattle.model.specs.EncodingPromises.{Encodable, LengthCall, EncoderCall, FramesCall, MessageCall}
use Rattle.model.proofs.Causes.{stays, clear, unless}
use Rattle.model.proofs.Accepted as Accepted
use Rattle.model.proofs.Order.{Listed, listed, whole, follow, after_records, word_order}
use Rattle.model.proofs.WordClaims.{bits_tested}
use Rattle.model.proofs.WordCalls.{numbers, word_refuses, answer_codeword, codeword_answer, answer_odd, answer_place, test_is}
use Rattle.model.proofs.Composition.{sum_bits}
use Rattle.model.proofs.ComposedCalls.{reflector_is, reflected_taken}
use Rattle.model.proofs.ReflectedCalls.{reflected_calls}
use Rattle.model.proofs.Reduction.{columns}
use Rattle.model.proofs.Encoding.{length_encoded, frame_part, encoding}

-- ---- parts of a list
pub part_bits : (size f g : ℕ) (l : List ℕ) → g < f → Bits (f * size) l → Bits size (part size g l)
part_bits size f g l h b =
    let long = length_part size g l (omega (arith, mul-le-mul_right {m = suc g} {n = f} size h, b.long)) in
    record { long = long; binary = λ i. by i (dec_lt i size) long }
  where
    by : (i : ℕ) → Dec (i < size) → length (part size g l) ≡ size → bit_at (part size g l) i < 2
    by i (yes h) e = rw (get_or-take size (drop (g * size) l) i 0 h, get_or-drop (g * size) l i 0) (b.binary (g * size + i))
    by i (no h) e = let past : length (part size g l) ≤ i = omega arith in rw (get_or-eq_default (part size g l) 0 past) (omega arith)

-- ---- which codes are taken
module _ (b : List ℕ) where
  abbrev k : Code
  k = code_of b

  abbrev n : ℕ
  n = k.bits

  abbrev L : ℕ
  L = message_length k

  pub size_passes : (l : List ℕ) → (first_of (judge b ∷ (size_causes k ++ l)) ≡ 0) ↔ (Encodable b × (first_of l ≡ 0))
  size_passes l = (λ h. took (judge b) refl (ltb most_encoded_bits n) refl h, λ e. rw (e.0.accepted, le-ltb most_encoded_bits n e.0.size) e.1)
    where
      took : (j : ℕ) → judge b ≡ j → (t : Bool) → ltb most_encoded_bits n ≡ t → first_of (j ∷ (20 if t ∷ l)) ≡ 0 → Encodable b × (first_of l ≡ 0)
      took zero e false f h = (record { accepted = e; size = ltb-false most_encoded_bits n f }, h)
      took zero e true f h = absurd (omega arith)
      took (suc j) e t f h = absurd (omega arith)

  laws : Encodable b → Encodes k
  laws e = encoding k (Accepted.accepted b e.accepted)

  -- ---- messages that have `long` entries, for words that have `room`
  module _ (long room : ℕ) (ms old : List ℕ) where
    pub message_passes : (first_of (judge b ∷ (size_causes k ++ message_causes long room ms old)) ≡ 0) ↔ (Encodable b × Bits long ms × (room ≤ length old))
    message_passes =
        let rest = message_causes long room ms old in (
          λ h.
              let x = (size_passes rest).0 h in
              let y = clear rest x.1 in (
                x.0,
                (bits_tested long ms).1 (unless 11 (unequal ms long) y.0, unless 14 (some not_binary ms) y.1.0),
                ltb-false (length old) room (unless 9 _ y.1.1.0),
              ),
          λ e. (size_passes rest).1 (e.0, (let t = (bits_tested long ms).0 e.1 in rw (t.0, t.1, le-ltb (length old) room e.2))),
        )

    abbrev message_tests : List (ℕ × Bool)
    message_tests = (20, ltb most_encoded_bits n) ∷ (12, unequal ms long) ∷ (15, some not_binary ms) ∷ (10, short room old) ∷ []

  -- ---- one frame
  pub encoder_exactly : (m old : List ℕ) → ((encoder b m old).number ≡ 0) ↔ (Encodable b × Bits L m × (n ≤ length old))
  unfolding encoder
  encoder_exactly m old = message_passes L n m old

  encoder_is : (m old : List ℕ) → Encodable b → Bits L m → n ≤ length old → encoder b m old ≡ record { number = 0; words = written (encoded k m) old }
  unfolding encoder
  encoder_is m old e bits room = rw ((message_passes L n m old).1 (e, bits, room))

  word_long : (m : List ℕ) → length (encoded k m) ≡ n
  word_long m = length_encoded (reduced k) m ∙ columns k

  -- what an accepted call wrote
  word_is : (m old : List ℕ) → (encoder b m old).number ≡ 0 → take n (encoder b m old).words ≡ encoded k m
  word_is m old h =
      let x = (encoder_exactly m old).0 h in
      ap (λ (a : Encoding). take n a.words) (encoder_is m old x.0 x.1 x.2) ∙ take_written (encoded k m) old n (word_long m)

  -- ---- the message of a codeword
  module _ (w old : List ℕ) where
    abbrev no_room : List ℕ
    no_room = 10 if short L old ∷ []

    size_listed : Listed numbers (size_causes k)
    size_listed = listed numbers ((20, ltb most_encoded_bits n) ∷ []) refl

    room_listed : Listed numbers no_room
    room_listed = listed numbers ((10, short L old) ∷ []) refl

    -- the number of a refusal is a refusal's
    pub reading_refuses : (c : ℕ) → first_of (judge b ∷ message_reader_causes k w old) ≡ suc c → Refuses (suc c)
    reading_refuses = word_refuses b w (size_causes k) no_room size_listed room_listed

    pub reading_is : Encodable b → Codeword k w → L ≤ length old
        → message_reader b w old ≡ record { outcome = record { number = 0; place = 0 }; message = written (message_of k w) old }
    unfolding message_reader
    reading_is e c room =
        rw (codeword_answer b w (size_causes k) no_room size_listed room_listed e.accepted (rw (le-ltb most_encoded_bits n e.size)) (rw (le-ltb (length old) L room)) c)

    pub reading_exactly : ((message_reader b w old).outcome.number ≡ 0) ↔ (Encodable b × Codeword k w × (L ≤ length old))
    unfolding message_reader
    reading_exactly = (
      λ h.
          let x = answer_codeword b w (size_causes k) no_room size_listed room_listed h in (
            record { accepted = x.0.code; size = ltb-false most_encoded_bits n (unless 19 _ (clear (size_causes k) x.0.first).0) },
            x.1,
            ltb-false (length old) L (unless 9 _ (clear no_room x.0.last).0),
          ),
      λ e. ap (λ (a : MessageRead). a.outcome.number) (reading_is e.0 e.1 e.2),
    )

    pub reading_call : (a : MessageRead) → a ≡ message_reader b w old → MessageCall b w old a
    unfolding message_reader
    reading_call a meets =
        let T = one_to_nine ++ (10 ∷ 12 ∷ 15 ∷ 17 ∷ 20 ∷ []) in
        let causes : List (ℕ × Bool) = (20, ltb most_encoded_bits n) ∷ (12, unequal w n) ∷ (15, some not_binary w) ∷ (10, short L old)
        ∷ (17, ltb (first_odd k w) (length k.checks)) ∷ [] in
        subst (MessageCall b w old) (sym meets) (record {
          equation = refl;
          order = after_records (10 ∷ 12 ∷ 15 ∷ 17 ∷ 20 ∷ []) b (message_reader_causes k w old ++ odd_causes k w) _
              (listed T causes refl) (word_order k w (judge b ∷ message_reader_causes k w old));
          follows = follow (whole b ++ causes) refl;
          exactly = reading_exactly;
          filled = λ h. rw h;
          encoded_back = λ h out room.
              let x = reading_exactly.0 h in
              let some = (laws x.0).some_message w x.1 in
              let taken : take L (message_reader b w old).message ≡ message_of k w
              = ap (λ (r : MessageRead). take L r.message) (reading_is x.0 x.1 x.2) ∙ take_written (message_of k w) old L some.0.long in
              ap (λ (m : List ℕ). encoder b m out) taken ∙ encoder_is (message_of k w) out x.0 some.0 room
              ∙ ap (λ (u : List ℕ). record { number = 0; words = written u out }) some.1;
          odd = answer_odd b w (size_causes k) no_room size_listed room_listed;
          place = answer_place b w (size_causes k) no_room size_listed room_listed;
          untouched = stays _ (written (message_of k w) old) old;
        })

  -- ---- the length of a message
  pub length_call : (a : Length) → a ≡ message_size b → LengthCall b a
  unfolding message_size
  length_call a meets =
      let T = one_to_nine ++ (20 ∷ []) in
      let causes : List (ℕ × Bool) = (20, ltb most_encoded_bits n) ∷ [] in
      let passed = size_passes [] in
      subst (LengthCall b) (sym meets) (record {
        equation = refl;
        order = after_records (20 ∷ []) b (size_causes k) _ (listed T causes refl) refl;
        follows = follow (whole b ++ causes) refl;
        exactly = (λ h. (passed.0 h).0, λ e. passed.1 (e, refl));
        refused = λ c h. rw h;
        told = λ h. rw h;
        taken = λ h m old room. rw h (λ q. ((encoder_exactly m old).0 q).1, λ bits. (encoder_exactly m old).1 ((passed.0 h).0, bits, room));
      })

  -- ---- the encoder
  module _ (m old : List ℕ) where
    number : (encoder b m old).number ≡ first_of (judge b ∷ encoder_causes k m old)
    unfolding encoder
    number = refl

    refused : (c : ℕ) → (encoder b m old).number ≡ suc c → (encoder b m old).words ≡ old
    unfolding encoder
    refused c h = rw h

    pub encoder_call : (a : Encoding) → a ≡ encoder b m old → EncoderCall b m old a
    encoder_call a meets =
        let T = one_to_nine ++ (10 ∷ 12 ∷ 15 ∷ 20 ∷ []) in
        let took = (encoder_exactly m old).0 in
        let is : (encoder b m old).number ≡ 0 → take n (encoder b m old).words ≡ encoded k m = word_is m old in
        let codeword : (encoder b m old).number ≡ 0 → Codeword k (encoded k m) = λ h. (laws (took h).0).codeword m (took h).1 in
        subst (EncoderCall b m old) (sym meets) (record {
          equation = refl;
          order = after_records (10 ∷ 12 ∷ 15 ∷ 20 ∷ []) b (encoder_causes k m old) _ (listed T (message_tests L n m old) refl) number;
          follows = follow (whole b ++ message_tests L n m old) refl;
          exactly = encoder_exactly m old;
          refused = refused;
          filled = λ h. ap (λ (x : Encoding). x.words) (encoder_is m old (took h).0 (took h).1 (took h).2);
          word = is;
          encodes = λ j. encoding k (Accepted.accepted b j);
          tested = λ h. rw (is h) (test_is b (encoded k m) (took h).0.accepted (codeword h));
          read_back = λ h out room.
              rw (is h) (reading_is (encoded k m) out (took h).0 (codeword h) (omega (arith, (took h).1.long, room))
              ∙ ap (λ (l : List ℕ). record { outcome = record { number = 0; place = 0 }; message = written l out }) ((laws (took h).0).read_back m (took h).1));
          one_message = λ h l out g e.
              (laws (took h).0).one_message l m ((encoder_exactly l out).0 g).1 (took h).1 (sym (word_is l out g) ∙ e ∙ is h);
          sum = λ h l lent c other g out room.
              let told : (encoder b l lent).number ≡ 0 = ap (λ (x : Encoding). x.number) (sym other) ∙ g in
              let bits = ((encoder_exactly l lent).0 told).1 in
              encoder_is (sum_of_words m l) out (took h).0 (sum_bits L m l (took h).1 bits) room
              ∙ ap (λ (u : List ℕ). record { number = 0; words = written u out })
              ((laws (took h).0).sum m l (took h).1 bits
              ∙ ap₂ sum_of_words (sym (is h)) (sym (word_is l lent told) ∙ ap (λ (x : Encoding). take n x.words) (sym other)));
          reflected = λ h costs small long out room r reflects.
              let w = encoded k m in
              let took_costs : r ≡ record { number = 0; costs = written (reflect w costs) out }
              = reflects ∙ rw (is h) (reflector_is costs w out small (rw long (codeword h).word) room) in (
                ap (λ (x : Costs). x.number) took_costs,
                λ o l passes d ran lists space e again.
                    let costs_are : take (length costs) r.costs ≡ reflect w costs
                    = ap (λ (x : Costs). take (length costs) x.costs) took_costs ∙ reflected_taken costs w out in
                    rw (is h, ran, again, costs_are) (reflected_calls b w o costs l lists passes small space (codeword h)),
              );
        })

  -- ---- many frames
  module _ (f : ℕ) (ms old : List ℕ) where
    frames_exactly : ((frames_encoder b f ms old).number ≡ 0) ↔ (Encodable b × Bits (f * L) ms × (f * n ≤ length old))
    unfolding frames_encoder
    frames_exactly = message_passes (f * L) (f * n) ms old

    frames_is : (frames_encoder b f ms old).number ≡ 0 → (frames_encoder b f ms old).words ≡ written (encoded_frames k f ms) old
    unfolding frames_encoder
    frames_is h = rw h

    frames_number : (frames_encoder b f ms old).number ≡ first_of (judge b ∷ frames_causes k f ms old)
    unfolding frames_encoder
    frames_number = refl

    frames_refused : (c : ℕ) → (frames_encoder b f ms old).number ≡ suc c → (frames_encoder b f ms old).words ≡ old
    unfolding frames_encoder
    frames_refused c h = rw h

    -- one frame
    single : f ≡ 1 → frames_encoder b f ms old ≡ encoder b ms old
    unfolding frames_encoder encoder frames_in
    single e =
        let one : (x : ℕ) → 1 * x ≡ x = λ x. omega arith in
        rw (e, one L, one n) (by (first_of (judge b ∷ encoder_causes k ms old)) refl)
      where
        told : ℕ → List ℕ → Encoding
        told c m = record { number = c; words = accepted c (written (encoded k m) old) old }

        by : (c : ℕ) → first_of (judge b ∷ encoder_causes k ms old) ≡ c → told c (part L 0 ms) ≡ told c ms
        by zero h =
            let all : part L 0 ms ≡ ms = rw (zero-mul L) (take_all L ms (omega (arith, ((message_passes L n ms old).0 h).1.long))) in
            ap (told 0) all
        by (suc c) h = refl

    pub frames_call : (a : Encoding) → a ≡ frames_encoder b f ms old → FramesCall b f ms old a
    frames_call a meets =
        let T = one_to_nine ++ (10 ∷ 12 ∷ 15 ∷ 20 ∷ []) in
        let tests = message_tests (f * L) (f * n) ms old in
        subst (FramesCall b f ms old) (sym meets) (record {
          equation = refl;
          order = after_records (10 ∷ 12 ∷ 15 ∷ 20 ∷ []) b (frames_causes k f ms old) _ (listed T tests refl) frames_number;
          follows = follow (whole b ++ tests) refl;
          exactly = frames_exactly;
          refused = frames_refused;
          filled = frames_is;
          each = λ h g l out room.
              let x = frames_exactly.0 h in
              encoder_is (part L g ms) out x.0 (part_bits L f g ms l x.1) room
              ∙ ap (λ (w : List ℕ). record { number = 0; words = written w out })
              (sym (ap (part n g) (frames_is h) ∙ ap (λ (m : ℕ). part m g (written (encoded_frames k f ms) old)) (sym (columns k)) ∙ frame_part (reduced k) f ms (drop (length (encoded_frames k f ms)) old) g l));
          single = single;
        })
