-- What the code keeps of how the views of runs differ.
use Rattle.std.specs.Prelude.{◌≡◌, ◌<◌, ◌≤◌, ◌⊎◌, ℕ, ◌-◌, nat_lt, min, max, true, false, List, [], ◌∷◌, if◌then◌else◌}
use Rattle.std.specs.Prelude.{slice_index_or, slice_set, length, ⊤}
use Rattle.branch_runs.specs.declared.change.Change.{Change}
use Rattle.branch_runs.specs.declared.seen.SeenText.{SeenText}
use Rattle.branch_runs.specs.Seen.{is_seen, taken}
use Rattle.branch_runs.specs.Anew.{no_change}

-- the changes with that of a run made wider
abbrev pub widened : List Change → ℕ → ℕ → ℕ → List Change
widened changes run first end =
    slice_set changes run (record {
      first = min (slice_index_or changes run no_change).first first;
      end = max (slice_index_or changes run no_change).end end;
    })

-- with the runs that a text begins and ends with
abbrev pub noted_one : List Change → SeenText → List Change
noted_one changes seen =
    if nat_lt seen.from seen.till then widened (widened changes seen.from seen.first seen.end) seen.till seen.first 0
    else changes

-- with those of these texts
abbrev pub noted : List Change → List SeenText → List Change
noted changes [] = changes
noted changes (seen ∷ texts) = noted (noted_one changes seen) texts

-- The changes of the runs that the text begins and ends with hold it.
pub record Notes (changes : List Change) (seen : SeenText) : Type 0 where
  pub begins : seen.from < seen.till → seen.from < length changes →
      (slice_index_or changes seen.from no_change).first ≤ seen.first
  pub holds : seen.from < seen.till → seen.from < length changes →
      seen.end ≤ (slice_index_or changes seen.from no_change).end
  pub ends : seen.from < seen.till → seen.till < length changes →
      (slice_index_or changes seen.till no_change).first ≤ seen.first

abbrev pub AreNoted : List Change → List SeenText → Type 0
AreNoted changes [] = ⊤
AreNoted changes (seen ∷ texts) = Notes changes seen × AreNoted changes texts

-- one of these texts, which one run sees and another doesn't, begins with this item
abbrev pub BeginsAlone : List SeenText → ℕ → ℕ → ℕ → Type 0
BeginsAlone [] one other first = ⊥
BeginsAlone (seen ∷ texts) one other first =
    ((is_seen seen one ≡ true) × (is_seen seen other ≡ false) × (seen.first ≡ first))
    ⊎ BeginsAlone texts one other first

-- one of these texts, which one run sees and another doesn't, ends before this item
abbrev pub EndsAlone : List SeenText → ℕ → ℕ → ℕ → Type 0
EndsAlone [] one other end = ⊥
EndsAlone (seen ∷ texts) one other end =
    ((is_seen seen one ≡ true) × (is_seen seen other ≡ false) × (seen.end ≡ end)) ⊎ EndsAlone texts one other end

-- The change of a run begins and ends with texts that the run or the one before it sees alone.
pub record IsNarrow (texts : List SeenText) (r : ℕ) (change : Change) : Type 0 where
  pub first : ((taken texts r ≡ taken texts (r - 1)) × (change.first ≡ 4294967295))
      ⊎ (BeginsAlone texts r (r - 1) change.first ⊎ BeginsAlone texts (r - 1) r change.first)
  pub end : (change.end ≡ 0) ⊎ EndsAlone texts r (r - 1) change.end

-- So is that of each run but the first.
abbrev pub AreNarrow : List Change → List SeenText → Type 0
AreNarrow changes texts = (r : ℕ) → 0 < r → r < length changes → IsNarrow texts r (slice_index_or changes r no_change)
