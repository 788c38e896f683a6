-- The words of the crates below that many modules of this crate cite, passed on from one place. Declares nothing. The words of std come from std itself, as a reader expects them to.
pub use Rattle.lrs_events.specs.Row.Joins.{end_by}
pub use Rattle.lrs_events.specs.Row.Removals.{is_within, IsRemoval}
pub use Rattle.lrs_events.specs.declared.rows.removals.Removal.{Removal}
pub use Rattle.lrs_element.specs.Course.{Millimetre, course_of, runs_over, is_too_long, meets, expand}
pub use Rattle.lrs_measure.specs.Limits.{longest_route}
pub use Rattle.lrs_element.specs.Pieces.{IsFilled}
pub use Rattle.lrs_element.specs.declared.link.Ground.{Ground}
pub use Rattle.lrs_element.specs.declared.link.Link.{Link}
pub use Rattle.lrs_element.specs.declared.link.Piece.{Piece}
pub use Rattle.lrs_element.specs.declared.marks.Mark.{Mark}
pub use Rattle.lrs_events.specs.Changes.{has_row}
pub use Rattle.lrs_events.specs.Places.{places_on, differs, Place, is_among}
pub use Rattle.lrs_events.specs.Spans.{are_rows, holds_by_spans, span_before}
pub use Rattle.lrs_events.specs.declared.class.Asset.{Asset}
pub use Rattle.lrs_events.specs.declared.class.Kind.{Kind}
pub use Rattle.lrs_events.specs.declared.part.Gone.{Gone}
pub use Rattle.lrs_events.specs.declared.part.Part.{Part}
pub use Rattle.lrs_events.specs.declared.side.Side.TheVariants.{B}
pub use Rattle.lrs_events.specs.declared.span.Span.{Span}
pub use Rattle.lrs_image_laws.specs.GoneRows.{AreGone}
pub use Rattle.lrs_position.specs.Index.Ground.{is_run_once, Stretches}
pub use Rattle.lrs_position.specs.Index.Routes.{IsGroundOf}
pub use Rattle.lrs_image.specs.Change.{is_named, with_difference, changed_refs, no_difference, no_keys, keys_of, CanDiffer, entry_after, fits_after, without, route_after, are_names_of, spans_after}
pub use Rattle.lrs_image.specs.OpenLists.{image_of}
pub use Rattle.lrs_image.specs.declared.change.Difference.{Difference}
pub use Rattle.lrs_image.specs.declared.change.RouteChange.{RouteChange}
pub use Rattle.lrs_image.specs.declared.change.RouteKeys.{RouteKeys}
unfoldable pub use Rattle.lrs_machine.specs.Image.{state_of}
pub use Rattle.lrs_machine.specs.Image.{route_entry, referents_on, referent_entry, asset_entry, holds_on}
unfoldable pub use Rattle.lrs_machine.specs.Machine.{attempt}
pub use Rattle.lrs_machine.specs.Machine.{◌>>◌, ◌>>=◌, EventStretch, part_of, set_route, located_stretch, refuse_at}
pub use Rattle.lrs_machine.specs.Register.{contains_key}
pub use Rattle.lrs_machine.specs.Sound.{IsSound, route_before, are_spans_of, is_span, is_on_a_link, RouteCourse, asset_before, are_courses}
pub use Rattle.lrs_machine.specs.State.{State, Retired}
pub use Rattle.lrs_machine.specs.declared.answer.Cause.{Cause}
pub use Rattle.lrs_machine.specs.declared.command.Command.{Command}
pub use Rattle.lrs_machine.specs.declared.command.NewAsset.{NewAsset}
pub use Rattle.lrs_machine.specs.declared.image.Edit.{Edit}
pub use Rattle.lrs_machine.specs.declared.image.Image.{Image}
pub use Rattle.lrs_machine.specs.declared.image.RouteRow.{RouteRow}
pub use Rattle.lrs_measure.specs.Lists.{each_two}
pub use Rattle.lrs_measure.specs.OrderedLists.{insert_by}
pub use Rattle.lrs_measure.specs.Texts.{Name, same_name, name_cmp}
pub use Rattle.lrs_image_laws.specs.CommandChanges.{Makes}
pub use Rattle.lrs_image_laws.specs.Orderly.{IsOrderly}
pub use Rattle.lrs_position.specs.Locations.{Alignment}
pub use Rattle.lrs_position.specs.Routes.{is_route, is_route_course, are_referents, have_marks, referent_before}
pub use Rattle.lrs_position.specs.Translations.{alignment_of}
pub use Rattle.lrs_position.specs.declared.route.Referent.{Referent}
pub use Rattle.lrs_image_laws.specs.Differences.{rerouting}
pub use Rattle.lrs_events.specs.RouteSpans.Plans.{IsPlan}
