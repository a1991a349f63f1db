use mathlib.Core.Path.{◌≡◌}
use Prim.Native.Nat.{◌*◌}
use Rattle.std.specs.Iterator.Adapters.{enumerate_source, enumerate_count}
use Rattle.std.specs.Slice.Iter.{chunks_exact_rest, chunks_exact_size}
use Rattle.limits.specs.Limits.{triangles}
use Rattle.draw.proofs.Drawn.{Drawn}
use Rattle.draw.proofs.draw_triangles.Given as goal

abbrev pub invariant-loop-c : goal.invariant-loop-c
invariant-loop-c l =
    let s = enumerate_source l.c-iterator in
    let c = enumerate_count l.c-iterator in
    record {
      drawn : Drawn triangles l.cells l.faces l.firsts (chunks_exact_rest s) c (3 * c);
      six : chunks_exact_size s ≡ 6;
    }
