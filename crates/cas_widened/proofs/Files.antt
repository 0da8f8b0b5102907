-- Streams, partitions and contents of table files.
use Rattle.std.proofs.Common.{Bool, List, ◌++◌}
use Rattle.std.specs.List.{AllByRecursion}
use Rattle.cas_types.specs.Schemas.{is_static, is_regular}
use Rattle.cas_types.specs.declared.schema.Column.{Column}
use Rattle.cas_types.specs.declared.schema.Kind.{Kind}
use Rattle.cas_atoms.specs.declared.row.Row.{Row}
use Rattle.cas_atoms.specs.declared.row.RowColumn.{RowColumn}
use Rattle.cas_streams.specs.Streams.{IsOrdered, IsColumn, AreColumns, IsFragment, WellFormed}
use Rattle.cas_streams.specs.declared.fragment.Fragment.{Fragment}
use Rattle.cas_streams.specs.declared.fragment.Fragment.TheVariants as fragment
use Rattle.cas_streams.proofs.Weaves.{all_so}
use Rattle.cas_fragments.specs.Allowed.{FitsColumn, FitColumns, FitsRow, FitsFragment}
use Rattle.cas_fragments.specs.Blocks.{statics_in, behind_statics}
use Rattle.cas_tables.specs.Contents.{Partition}
use Rattle.cas_tables.specs.Fitting.{FitsPartition}
use Rattle.cas_widened.specs.Laws.{AreAdded, ContentsStay}
use Rattle.cas_widened.proofs.Columns.{ordered_still, clustering_fits, cut_fits, names_still}

module _ (columns more : List Column) (added : AreAdded more) where
  abbrev wide : List Column
  wide = columns ++ more

  -- ---- streams

  is_column : (is_of : Kind → Bool) (c : RowColumn) → IsColumn is_of columns c → IsColumn is_of wide c
  is_column is_of c is = record {
    column = is.column;
    named = names_still columns more c.column is.column is.named;
    kind = is.kind;
    ascend = is.ascend;
    paths = is.paths;
    collection = is.collection;
    said = is.said;
  }

  are_columns : (is_of : Kind → Bool) (cs : List RowColumn) → AreColumns is_of columns cs → AreColumns is_of wide cs
  are_columns is_of cs are = record { ascend = are.ascend; each = all_so _ _ (is_column is_of) cs are.each }

  is_fragment : (f : Fragment) → IsFragment columns f → IsFragment wide f
  is_fragment (fragment.Static cs) is = (are_columns is_static cs is.0, is.1)
  is_fragment (fragment.Row r) is = (are_columns is_regular r.columns is.0, is.1)
  is_fragment (fragment.Marker cut d) is = tt

  pub stream_stays : (fs : List Fragment) → WellFormed columns fs → WellFormed wide fs
  stream_stays fs is = record {
    ordered = ordered_still columns more added (λ o. IsOrdered o fs) is.ordered;
    fragments = all_so _ _ is_fragment fs is.fragments;
    markers = is.markers;
  }

  -- ---- what fits a file

  column_fits : (is_of : Kind → Bool) (c : RowColumn) → FitsColumn is_of columns c → FitsColumn is_of wide c
  unfolding is_column
  column_fits is_of c fits = record { of = is_column is_of c fits.of; deletion = fits.deletion; cells = fits.cells; few = fits.few }

  pub columns_fit : (is_of : Kind → Bool) (cs : List RowColumn) → FitColumns is_of columns cs → FitColumns is_of wide cs
  columns_fit is_of cs fit = record { ascend = fit.ascend; each = all_so _ _ (column_fits is_of) cs fit.each; few = fit.few }

  row_fits : (r : Row) → FitsRow columns r → FitsRow wide r
  row_fits r fits = record {
    clustering = clustering_fits columns more added r.clustering fits.clustering;
    deletion = fits.deletion;
    live = fits.live;
    each = columns_fit is_regular r.columns fits.each;
    said = fits.said;
  }

  fragment_fits : (f : Fragment) → FitsFragment columns f → FitsFragment wide f
  fragment_fits (fragment.Static cs) fits = absurd fits
  fragment_fits (fragment.Row r) fits = row_fits r fits
  fragment_fits (fragment.Marker cut d) fits = (cut_fits columns more added cut fits.0, fits.1)

  pub fragments_fit : (fs : List Fragment) → AllByRecursion (FitsFragment columns) fs → AllByRecursion (FitsFragment wide) fs
  fragments_fit fs all = all_so (FitsFragment columns) (FitsFragment wide) fragment_fits fs all

  -- ---- files

  pub partition_fits : (p : Partition) → FitsPartition columns p → FitsPartition wide p
  partition_fits p fits = record {
    key = fits.key;
    top = fits.top;
    well_formed = stream_stays p.stream.fragments fits.well_formed;
    statics = columns_fit is_static (statics_in p.stream.fragments) fits.statics;
    rest = fragments_fit (behind_statics p.stream.fragments) fits.rest;
    room = fits.room;
    said = fits.said;
  }

pub contents_stay : ContentsStay
contents_stay columns more c added fits = record {
  header = fits.header;
  level = fits.level;
  few = fits.few;
  ascend = fits.ascend;
  each = all_so (FitsPartition columns) (FitsPartition (columns ++ more)) (partition_fits columns more added) c.partitions fits.each;
  statics = fits.statics;
  short = fits.short;
}
