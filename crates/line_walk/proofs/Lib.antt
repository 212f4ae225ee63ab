mod Walking
mod LeastBreaks
mod Starting
