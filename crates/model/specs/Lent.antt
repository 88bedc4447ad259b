-- The lists behind a `Lists`. Definitions only.
use Rattle.std.specs.Prelude.{◌≡◌}
use Rattle.model.specs.declared.Lists as declared
use Rattle.model.specs.Calls.{Lists, lists_of}

-- what they hold
abbrev pub contents_of : declared.Lists → Lists
contents_of l = lists_of l.triples.now l.counts.now l.sums.now l.values.now l.rows.now l.word.now

-- the fields still lend the same lists
pub record SameLists (before after : declared.Lists) : Type 0 where
  pub triples : after.triples.ghost_name ≡ before.triples.ghost_name
  pub counts : after.counts.ghost_name ≡ before.counts.ghost_name
  pub sums : after.sums.ghost_name ≡ before.sums.ghost_name
  pub values : after.values.ghost_name ≡ before.values.ghost_name
  pub rows : after.rows.ghost_name ≡ before.rows.ghost_name
  pub word : after.word.ghost_name ≡ before.word.ghost_name
