-- What the run of a window finds by numbers.
use Rattle.std.specs.Prelude.{◌≡◌, ℕ, ◌<◌, List, length}
use Rattle.semantics.specs.declared.line.Line.{Line}
use Rattle.semantics.specs.Pending.{IsBoundedAt}
use Rattle.histories.specs.Record.{pair_at}
use Rattle.circuit_model.specs.declared.node_kind.NodeKind.TheVariants.{Free}
use Rattle.circuit_model.specs.Numbers.{kind_at}
use Rattle.window_run.specs.Circuit.{IsNumbered, net_of}
use Rattle.window_run.specs.Net.{IsNet, IsRun}
use Rattle.window_run.specs.Pieces.{AreTurning, OnlyFree, pairs}
use Rattle.window_run.specs.declared.task.Task.{Task}
use Rattle.window_run.specs.Task.{AreFreeNodes, circuit_of}

-- the lines of each number are a run from the first tick of a task to this one, from its record there; they turn, and only free nodes have some
pub record Found (task : Task) (until : ℕ) (ps : List (List Line)) : Type 0 where
  pub numbered : IsNumbered (circuit_of task)
  pub net : IsNet (net_of (circuit_of task))
  pub nodes : AreFreeNodes task
  pub order : task.from < until
  pub count : length ps ≡ (net_of (circuit_of task)).nodes
  pub run : IsRun (net_of (circuit_of task)) (pairs ps) task.from until
  pub first : (i : ℕ) → kind_at (circuit_of task) i ≡ Free → pairs ps i task.from ≡ pair_at task.past i task.from
  pub bounds : (i : ℕ) → kind_at (circuit_of task) i ≡ Free → IsBoundedAt task.from (pair_at task.past i task.from)
  pub turning : AreTurning (net_of (circuit_of task)) task.from until ps
  pub only : OnlyFree (net_of (circuit_of task)) ps
