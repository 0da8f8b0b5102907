mod Scans
mod Fronts
mod Printed
mod Values
mod Collections
mod ReadBack
