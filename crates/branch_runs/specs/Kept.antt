-- What the code keeps of a text's conditionals.
use Rattle.std.specs.Prelude.{◌≡◌, ◌≤◌, ℕ, Bool, List, [], map, length}
use Rattle.c_chars.specs.declared.TheConstants.{LIMIT}
use Rattle.token_arena.specs.Segments.{AscendFrom}
use Rattle.branch_runs.specs.declared.change.Change.{Change}
use Rattle.branch_runs.specs.declared.node.Node.{Node}
use Rattle.branch_runs.specs.declared.seen.SeenText.{SeenText}
use Rattle.branch_runs.specs.Cut.{IsCutFrom}
use Rattle.branch_runs.specs.Reading.{read}
use Rattle.branch_runs.specs.Runs.{need}
use Rattle.branch_runs.specs.Flags.{flags_in}
use Rattle.branch_runs.specs.Links.{node_mark}
use Rattle.branch_runs.specs.Fits.{FitNodes}
use Rattle.branch_runs.specs.Noted.{AreNoted, AreNarrow}
use Rattle.branch_runs.specs.Seen.{seen_texts}
use Rattle.branch_runs.specs.Inside.{text_bounds}

-- The flags, texts, changes and count are those of the marks that the nodes have.
pub record IsKept (nodes : List Node) (dead : List Bool) (texts : List SeenText) (changes : List Change) (count : ℕ) :
    Type 0 where
  -- each node says what is read behind its section
  pub fit : FitNodes (map node_mark nodes) 0 nodes
  -- the sections follow one another from the first item on
  pub cut : IsCutFrom 0 (map node_mark nodes)
  -- there are no more of them than a text may have bytes
  pub small : length nodes ≤ LIMIT
  -- so many runs are needed
  pub need_is : count ≡ need (read (map node_mark nodes))
  -- each item has a flag that says whether it is dead
  pub flags : dead ≡ flags_in [] (map node_mark nodes)
  -- each text has the runs that see it
  pub texts_are : texts ≡ seen_texts (read (map node_mark nodes)) 0 count
  -- the texts stand in order, apart from one another
  pub ascend : AscendFrom 0 (map text_bounds texts)
  -- each run has a change
  pub each_run : length changes ≡ count
  -- the change of a run holds each text that begins or ends with it
  pub noted : AreNoted changes texts
  -- and it begins and ends with texts that one of two runs sees alone
  pub narrow : AreNarrow changes texts
