use Rattle.std.proofs.lemmas.Result.{err_from_is_err_and}
use Rattle.integers.proofs.Prelude.{◌≡◌, refl, sym, ◌<◌, ℕ, zero, suc, List, arith}
use Rattle.model.specs.Records.{judge}
use Rattle.model.specs.Calls.{reader}
use Rattle.model.proofs.Told.{determined}
use Rattle.model.proofs.Promises.{reader_call}
use Rattle.reader.proofs.read.Goals as goal

-- what a refusal tells
refused : (b : List ℕ) (n : ℕ) → 0 < n → judge b ≡ n → record { number = n; bits = 0; checks = 0; triples = 0 } ≡ reader b
unfolding reader
refused b zero h e = absurd (omega (arith, h))
refused b (suc n) h e = rw e refl

pub returns-in_err-read : goal.returns-in_err-read
returns-in_err-read c =
    let p = err_from_is_err_and c.from_residual.result c.from_residual.ensures.1 in
    rw (p.1, p.2) (reader_call _ _ (λ i. omega (arith, c.type_inv.code i)) (refused _ _ (determined.refuses _).0 (sym c.in_err-read.ensures.number)))

pub returns : goal.returns
unfolding reader
returns c = reader_call _ _ (λ i. omega (arith, c.type_inv.code i)) (rw (c.sizes.ensures.value, c.in_ok-read.ensures.code, sym c.in_ok-read.ensures.number) refl)
