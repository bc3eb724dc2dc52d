pub mod StormEvents
