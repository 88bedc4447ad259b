-- The answers of the encoder's functions, by their causes in order. Assumes nothing.
use Rattle.integers.proofs.Prelude.{◌≡◌, sym, ap, ap₂, ◌∙◌, List, [], ◌∷◌, ◌++◌, ℕ, zero, suc, ◌*◌, ◌≤◌, ◌<◌, arith, lt-ltb, le-ltb, eqb-true, not-false, length}
use Rattle.lists.specs.Tabulated.{written}
use Rattle.model.specs.Causes.{◌if◌, first_of, short, accepted}
use Rattle.model.specs.Code.{Code}
use Rattle.model.specs.Records.{code_of, judge}
use Rattle.model.specs.Words.{Outcome, tested}
use Rattle.model.specs.Calls.{word_causes}
use Rattle.model.specs.Encoding.{Column, reduced, others, message_in, frames_in, message_length, size_causes, message_size, message_causes, frames_causes, frames_encoder, message_reader_causes, message_reader}
use Rattle.model.specs.EncodingPromises.{LengthCall, FramesCall, MessageCall}
use Rattle.model.proofs.Accepted as Accepted
use Rattle.model.proofs.Causes.{first_in, clear, unless}
use Rattle.model.proofs.EncodingPromises.{size_passes, message_passes, length_call, frames_call, reading_call}
use Rattle.codeword.proofs.Verdicts.{refusal}

-- ---- the records are refused, or the code is too long
module _ (b : List ℕ) where
  abbrev pub unfit : ℕ
  unfit = first_of (judge b ∷ size_causes (code_of b))

  after : (l : List ℕ) → first_of (judge b ∷ (size_causes (code_of b) ++ l)) ≡ first_of (unfit ∷ l)
  after l = sym (first_in (judge b ∷ size_causes (code_of b)) l)

  at_once : (l : List ℕ) (c : ℕ) → c ≡ unfit → 1 ≤ c → first_of (judge b ∷ (size_causes (code_of b) ++ l)) ≡ c
  at_once l zero e h = absurd (omega (arith, h))
  at_once l (suc c) e h = after l ∙ rw (← e)

  pub length_unfit : (c : ℕ) → c ≡ unfit → 1 ≤ c → LengthCall b (record { number = c; length = 0 })
  unfolding message_size
  length_unfit zero e h = absurd (omega (arith, h))
  length_unfit (suc c) e h = length_call b _ (rw (← e))

  unencoded : (f : ℕ) (ms old : List ℕ) (c : ℕ) → first_of (judge b ∷ frames_causes (code_of b) f ms old) ≡ c → 1 ≤ c
      → FramesCall b f ms old (record { number = c; words = old })
  unfolding frames_encoder
  unencoded f ms old zero e h = absurd (omega (arith, h))
  unencoded f ms old (suc c) e h = frames_call b f ms old _ (rw e)

  pub frames_unfit : (f : ℕ) (ms old : List ℕ) (c : ℕ) → c ≡ unfit → 1 ≤ c → FramesCall b f ms old (record { number = c; words = old })
  frames_unfit f ms old c e h =
      unencoded f ms old c (at_once (message_causes (f * message_length (code_of b)) (f * (code_of b).bits) ms old) c e h) h

  unread : (w old : List ℕ) (c : ℕ) → first_of (judge b ∷ message_reader_causes (code_of b) w old) ≡ c → 1 ≤ c
      → MessageCall b w old (record { outcome = refusal c; message = old })
  unfolding message_reader
  unread w old zero e h = absurd (omega (arith, h))
  unread w old (suc c) e h = reading_call b w old _ (rw e)

  abbrev no_room : List ℕ → List ℕ
  no_room old = 10 if short (message_length (code_of b)) old ∷ []

  pub reading_unfit : (w old : List ℕ) (c : ℕ) → c ≡ unfit → 1 ≤ c → MessageCall b w old (record { outcome = refusal c; message = old })
  reading_unfit w old c e h = unread w old c (at_once (word_causes (code_of b).bits w ++ no_room old) c e h) h

-- ---- the code k is encoded
module _ (b : List ℕ) (fits : 0 ≡ unfit b) (k : Code) (code : k ≡ code_of b) where
  next : (l : List ℕ) → first_of (judge b ∷ (size_causes (code_of b) ++ l)) ≡ first_of l
  next l = after b l ∙ rw (← fits)

  -- a word is refused
  module _ (w old : List ℕ) (n : ℕ) (bits : n ≡ k.bits) where
    by_word : first_of (judge b ∷ message_reader_causes (code_of b) w old) ≡ first_of (first_of (word_causes n w) ∷ no_room b old)
    by_word =
        let e : n ≡ (code_of b).bits = bits ∙ ap (λ (k : Code). k.bits) code in
        next (word_causes (code_of b).bits w ++ no_room b old) ∙ rw e (sym (first_in (word_causes (code_of b).bits w) (no_room b old)))

    refuses : (c : ℕ) → c ≡ first_of (word_causes n w) → 1 ≤ c → first_of (judge b ∷ message_reader_causes (code_of b) w old) ≡ c
    refuses zero e h = absurd (omega (arith, h))
    refuses (suc c) e h = by_word ∙ rw (← e)

    pub reading_refused : (c : ℕ) → c ≡ first_of (word_causes n w) → 1 ≤ c → MessageCall b w old (record { outcome = refusal c; message = old })
    reading_refused c e h = unread b w old c (refuses c e h) h

    pub word_long : 0 ≡ first_of (word_causes n w) → length w ≡ k.bits
    word_long e =
        let x = clear (word_causes n w) (sym e) in
        eqb-true (length w) n (not-false _ (unless 11 _ x.0)) ∙ bits

  -- with the columns of its reduced matrix
  module _ (cs : List Column) (columns : cs ≡ reduced k) (width : length cs ≡ k.bits) where
    is_reduced : cs ≡ reduced (code_of b)
    is_reduced = columns ∙ ap reduced code

    size : others cs ≡ message_length (code_of b)
    size = ap others is_reduced

    all_bits : length cs ≡ (code_of b).bits
    all_bits = width ∙ ap (λ (k : Code). k.bits) code

    pub some_bits : 1 ≤ length cs
    some_bits =
        let e = ((size_passes b []).0 (sym fits)).0 in
        omega (arith, all_bits, (Accepted.accepted b e.accepted).bits_least)

    pub length_told : (n : ℕ) → n ≡ others cs → LengthCall b (record { number = 0; length = n })
    unfolding message_size
    length_told n e = length_call b _ (rw (← fits, e, size))

    -- ---- many frames
    module _ (f : ℕ) (ms old : List ℕ) where
      abbrev cause : ℕ
      cause = first_of (message_causes (f * others cs) (f * length cs) ms old)

      judged : first_of (judge b ∷ frames_causes (code_of b) f ms old) ≡ cause
      judged =
          next (message_causes (f * message_length (code_of b)) (f * (code_of b).bits) ms old)
          ∙ ap₂ (λ (x y : ℕ). first_of (message_causes (f * x) (f * y) ms old)) (sym size) (sym all_bits)

      pub frames_refused : (c : ℕ) → c ≡ cause → 1 ≤ c → FramesCall b f ms old (record { number = c; words = old })
      frames_refused c e h = unencoded b f ms old c (judged ∙ sym e) h

      module _ (none : 0 ≡ cause) where
        passed : first_of (judge b ∷ frames_causes (code_of b) f ms old) ≡ 0
        passed = judged ∙ sym none

        pub frames_long : length ms ≡ f * others cs
        frames_long =
            let x = (message_passes b (f * message_length (code_of b)) (f * (code_of b).bits) ms old).0 passed in
            x.1.long ∙ ap (λ (m : ℕ). f * m) (sym size)

        pub frames_room : f * length cs ≤ length old
        frames_room =
            let x = (message_passes b (f * message_length (code_of b)) (f * (code_of b).bits) ms old).0 passed in
            rw all_bits x.2

        pub frames_told : (w : List ℕ) → w ≡ written (frames_in cs f ms) old → FramesCall b f ms old (record { number = 0; words = w })
        unfolding frames_encoder
        frames_told w is = frames_call b f ms old _ (rw (passed, is, is_reduced))

    -- ---- the message of a word
    module _ (w old : List ℕ) (n : ℕ) (bits : n ≡ k.bits) (whole : 0 ≡ first_of (word_causes n w)) where
      by_room : first_of (judge b ∷ message_reader_causes (code_of b) w old) ≡ first_of (no_room b old)
      by_room = by_word w old n bits ∙ rw (← whole)

      pub reading_short : length old < others cs → MessageCall b w old (record { outcome = refusal 10; message = old })
      reading_short h =
          unread b w old 10 (by_room ∙ rw (lt-ltb (length old) (message_length (code_of b)) (omega (arith, size, h)))) (omega arith)

      pub reading_told : others cs ≤ length old → (o : Outcome) (l : List ℕ) → o ≡ tested k w → l ≡ accepted o.number (written (message_in cs w) old) old
          → MessageCall b w old (record { outcome = o; message = l })
      unfolding message_reader
      reading_told h o l t is =
          let all : first_of (judge b ∷ message_reader_causes (code_of b) w old) ≡ 0 = by_room ∙ rw (le-ltb (length old) (message_length (code_of b)) (omega (arith, size, h))) in
          reading_call b w old _ (rw (all, ← code, ← t, is, columns))
