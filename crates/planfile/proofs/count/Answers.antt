-- `planfile::count` meets its contract.
use Rattle.std.proofs.Common.{rules}
use Rattle.records.proofs.Spelled.{length_numbers_at}
use Rattle.planfile.proofs.Counts.{bytes_told, in_triangles, in_polygons}
use Rattle.planfile.proofs.count.Goals as goal

pub returns-then-kind-eq-TRIANGLES : goal.returns-then-kind-eq-TRIANGLES
returns-then-kind-eq-TRIANGLES c = in_triangles c.args.file.now c.requires.file_value c.requires.kind_value c.args.at c.args.m c.requires.m_value c.if-kind-eq-TRIANGLES.true

pub returns : goal.returns
returns c = in_polygons c.args.file.now c.requires.file_value c.requires.kind_value c.args.at c.args.m c.requires.m_value c.if-kind-eq-TRIANGLES.false
    (c.count_polygons.ensures _ (length_numbers_at 2 _ c.args.at c.args.m) (bytes_told _ _ _ (λ i n h is. search rules)))
